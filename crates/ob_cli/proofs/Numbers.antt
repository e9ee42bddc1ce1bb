-- What a number among the words is read as.
use Rattle.std.proofs.Common.{◌≡◌, ◌<◌, ◌≤◌, ◌^◌, ℕ, Bool, Option, Some, None, Result, Ok, Err, true, false, ap, arith, refl}
use Rattle.std.specs.Prelude.{option_and_then}
use Rattle.std.specs.Str.Parse.{ParsesUnsigned}
use Rattle.clap.proofs.ValueTestLemmas.{accepts-Accepts, Accepts-accepts}
use Rattle.clap.specs.Matches.{ReadsOne}
use Rattle.clap.specs.ValueTests.{is_unsigned_in}
use Rattle.clap.specs.Words.{Text}
use Rattle.clap.specs.declared.builder.value_parser.ValueParser.{ValueParser}
use Rattle.clap.specs.declared.builder.value_parser.ValueParser.TheVariants as parser
use Rattle.ob_cli.specs.Values.{count_in, number_in, number_up_to}

abbrev number_parser : ℕ → ValueParser
number_parser most = parser.Unsigned 0 most

-- a number of so many bits is at most this, and of 64 bits at most
abbrev IsMost : ℕ → ℕ → Type 0
IsMost bits most = (n : ℕ) → (n < 2 ^ bits → (n < 2 ^ 64) × (n ≤ most)) × (n ≤ most → n < 2 ^ bits)

read_number : (E : Type 0) (bits most : ℕ) (t : Text) (n : ℕ) → IsMost bits most
    → ParsesUnsigned {E = E} bits 10 t (Ok n) → Some n ≡ number_up_to most t
read_number E bits most t n is_most h =
    let fits = (is_most _).0 h.0.1 in
    let in_range : is_unsigned_in 0 most t ≡ true =
    Accepts-accepts false (number_parser most) t (h.0.0, fits.0, omega arith, fits.1) in
    rw in_range (ap Some h.1)

read_none : (E : Type 0) (bits most : ℕ) (t : Text) (e : E) → IsMost bits most
    → ParsesUnsigned {E = E} bits 10 t (Err e) → None ≡ number_up_to most t
read_none E bits most t e is_most h = go (is_unsigned_in 0 most t) refl
  where
    go : (b : Bool) → is_unsigned_in 0 most t ≡ b → None ≡ number_up_to most t
    go false out_of_range = rw out_of_range refl
    go true in_range =
        let passed = accepts-Accepts false (number_parser most) t in_range in
        absurd (h (passed.0, (is_most _).1 passed.3))

-- a getter that parses a text at so many bits reads the number that the text writes
number_read : (E : Type 0) (bits most : ℕ) (G : Text → Result ℕ E → Type 0) (o : Option Text) (r : Option ℕ)
    → IsMost bits most → ((t : Text) (x : Result ℕ E) → G t x → ParsesUnsigned bits 10 t x)
    → (o ≡ None → r ≡ None) → ((t : Text) → o ≡ Some t → ReadsOne G t r)
    → r ≡ option_and_then (number_up_to most) o
number_read E bits most G None r is_most parses none read = none refl
number_read E bits most G (Some t) (Some n) is_most parses none read =
    read_number E bits most t n is_most (parses t (Ok n) (read t refl))
number_read E bits most G (Some t) None is_most parses none read =
    let failed = read t refl in
    read_none E bits most t failed.0 is_most (parses t (Err failed.0) failed.1)

is_most_of_16 : IsMost 16 65535
is_most_of_16 n = (λ less. (omega arith, omega arith), λ most. omega arith)

is_most_of_64 : IsMost 64 18446744073709551615
is_most_of_64 n = (λ less. (omega arith, omega arith), λ most. omega arith)

-- the same at 16 bits
pub sixteen_read : (E : Type 0) (G : Text → Result ℕ E → Type 0) (o : Option Text) (r : Option ℕ)
    → ((t : Text) (x : Result ℕ E) → G t x → ParsesUnsigned 16 10 t x)
    → (o ≡ None → r ≡ None) → ((t : Text) → o ≡ Some t → ReadsOne G t r)
    → r ≡ option_and_then number_in o
sixteen_read E G o r parses none read = number_read E 16 65535 G o r is_most_of_16 parses none read

-- and at 64
pub sixty_four_read : (E : Type 0) (G : Text → Result ℕ E → Type 0) (o : Option Text) (r : Option ℕ)
    → ((t : Text) (x : Result ℕ E) → G t x → ParsesUnsigned 64 10 t x)
    → (o ≡ None → r ≡ None) → ((t : Text) → o ≡ Some t → ReadsOne G t r)
    → r ≡ option_and_then count_in o
sixty_four_read E G o r parses none read = number_read E 64 18446744073709551615 G o r is_most_of_64 parses none read

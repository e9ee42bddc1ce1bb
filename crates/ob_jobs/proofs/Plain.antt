-- The text of a record whose fields call for no quotes.
use Rattle.std.proofs.Common.{◌≡◌, ◌<◌, ◌≤◌, ℕ, suc, pos, negsuc, ℤ, ◌^◌, List, [], ◌∷◌, true, false, arith, refl, append_assoc, append-nil, FitsSigned, w64}
use Rattle.std.specs.Fmt.{decimal, signed_decimal}
use Rattle.std.specs.List.{list_any}
use Rattle.std.specs.Str.{all_ascii_digits}
use Rattle.std.proofs.lemmas.Bool.Decides.{nat_tests}
use Rattle.std.proofs.lemmas.Fmt.{digits_decimal}
use Rattle.std.proofs.lemmas.Str.Parse.{IsNumeralModel, numerals_by_value, tells_all_ascii_digits}
use Rattle.std.specs.Str.Parse.{digits_value}
use Rattle.csv.specs.Writing.{default_writer, fields_text, is_blank, row_text}
use Rattle.csv.specs.Quoting.{needs_byte}
use Rattle.ob_post.specs.declared.Dim.{Dim}
use Rattle.ob_post.specs.declared.Dim.TheVariants.{Cause, Feeder, Day}
use Rattle.ob_post.specs.Keys.{dim_word}
use Rattle.ob_jobs.specs.Text.{line}

own : IsNumeralModel (λ ds. all_ascii_digits ds ≡ true) (digits_value 10)
own = numerals_by_value _ tells_all_ascii_digits

plain_digit : (c : ℕ) → 48 ≤ c → c ≤ 57 → needs_byte default_writer c ≡ false
plain_digit c low high = grind (arith, nat_tests)

plain_digits : (ds : List ℕ) → all_ascii_digits ds ≡ true → list_any (needs_byte default_writer) ds ≡ false
plain_digits [] e = refl
plain_digits (c ∷ cs) e =
    let parts = tells_all_ascii_digits.parts c cs e in
    rw (plain_digit c parts.0.0 parts.0.1) (plain_digits cs parts.1)

plain_decimal : (n : ℕ) → n < 2 ^ 64 → list_any (needs_byte default_writer) (decimal n) ≡ false
plain_decimal n h = plain_digits (decimal n) (digits_decimal own n h)

plain_name : (d : Dim) → list_any (needs_byte default_writer) (dim_word d) ≡ false
plain_name Cause = refl
plain_name Feeder = refl
plain_name Day = refl

pub plain_record : (a b c d : List ℕ) → list_any (needs_byte default_writer) a ≡ false → list_any (needs_byte default_writer) b ≡ false
    → list_any (needs_byte default_writer) c ≡ false → list_any (needs_byte default_writer) d ≡ false
    → row_text default_writer (a ∷ b ∷ c ∷ d ∷ []) ≡ line a b c d
unfolding fields_text is_blank
plain_record a b c d ea eb ec ed = rw (ea, eb, ec, ed) (simp (append_assoc, append-nil))

plain_signed : (z : ℤ) → FitsSigned w64 z → list_any (needs_byte default_writer) (signed_decimal z) ≡ false
plain_signed (pos n) fits = plain_decimal n (omega (arith, fits))
plain_signed (negsuc n) fits = plain_decimal (suc n) (omega (arith, fits))

-- the record of what a command moved is its line
pub moved_record : (cmd : ℕ) (d : Dim) (key : ℕ) (delta : ℤ) → cmd < 2 ^ 64 → key < 2 ^ 64 → FitsSigned w64 delta
    → row_text default_writer (decimal cmd ∷ dim_word d ∷ decimal key ∷ signed_decimal delta ∷ []) ≡ line (decimal cmd) (dim_word d) (decimal key) (signed_decimal delta)
moved_record cmd d key delta few low fits = plain_record (decimal cmd) (dim_word d) (decimal key) (signed_decimal delta) (plain_decimal cmd few) (plain_name d) (plain_decimal key low) (plain_signed delta fits)

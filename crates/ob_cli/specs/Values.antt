-- The values of options, in what `clap` found for a subcommand.
use Rattle.std.specs.Prelude.{ℕ, Bool, false, List, Option, Some, None, codes, if◌then◌else◌, option_and_then}
use Rattle.std.specs.Option.{option_map_or}
use Rattle.std.specs.Str.{bytes_eq}
use Rattle.std.specs.Str.Parse.{digits_value, without_leading_plus}
use Rattle.clap.specs.ValueTests.{is_unsigned_in}
use Rattle.clap.specs.Words.{Row, Text, first_of, one_of}

-- the number up to the most that a text writes, where it writes one
abbrev pub number_up_to : ℕ → Text → Option ℕ
number_up_to most text =
    if is_unsigned_in 0 most text then Some (digits_value 10 (without_leading_plus text)) else None

-- the number of 16 bits that a text writes
abbrev pub number_in : Text → Option ℕ
number_in text = number_up_to 65535 text

-- the number of 64 bits that a text writes
abbrev pub count_in : Text → Option ℕ
count_in text = number_up_to 18446744073709551615 text

-- the number given for an option
abbrev pub number_given : Text → List Row → Option ℕ
number_given name rows = option_and_then number_in (one_of name rows)

-- the same of a number of 64 bits
abbrev pub count_given : Text → List Row → Option ℕ
count_given name rows = option_and_then count_in (one_of name rows)

-- whether an option without a value was given
abbrev pub flag_given : Text → List Row → Bool
flag_given name rows = option_map_or (λ text. bytes_eq text (codes "true")) (first_of name rows) false

-- what comes of the word given for an option, or of its default, where there is one
abbrev pub with_word : {A : Type 0} → Text → List Row → (Text → Option A) → Option A
with_word name rows next = option_and_then next (first_of name rows)

-- what comes of the number given for an option
abbrev pub with_number : {A : Type 0} → Text → List Row → (ℕ → Option A) → Option A
with_number name rows next = option_and_then next (number_given name rows)

-- the same of a number of 64 bits
abbrev pub with_count : {A : Type 0} → Text → List Row → (ℕ → Option A) → Option A
with_count name rows next = option_and_then next (count_given name rows)

-- The text of a second, in UTC.
use Rattle.std.specs.Prelude.{ℕ, pos, ◌/◌, ◌%◌, nat_le, List, [], ◌∷◌, ◌++◌, decimal, if◌then◌else◌}
use Rattle.ob_time.specs.Dates.{day_text, two_digit_text}

-- `HH:MM:SS` of a second of a day
abbrev pub clock_text : ℕ → List ℕ
clock_text s = two_digit_text (s / 3600) ++ 58 ∷ two_digit_text (s / 60 % 60) ++ 58 ∷ two_digit_text (s % 60)

-- `YYYY-MM-DDTHH:MM:SSZ` of a second: the date of its day, and its clock
abbrev pub utc_text : ℕ → List ℕ
utc_text s = day_text (pos (s / 86_400)) ++ 84 ∷ clock_text (s % 86_400) ++ 90 ∷ []

-- the text of a second: its moment in UTC, or its number where it is past the last moment that a book can name
abbrev pub moment_text : ℕ → List ℕ
moment_text s = if nat_le s 99_999_999_999 then utc_text s else decimal s

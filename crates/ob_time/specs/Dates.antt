-- The date of a day number, and its text.
use Rattle.std.specs.Prelude.{ℕ, ℤ, pos, ◌+◌, ◌/◌, ◌%◌, ◌-ℤ◌, ◌++◌, List, [], ◌∷◌, int_le, unsigned_abs}
use Rattle.std.specs.List.{count_by, range_with_len}
use Rattle.jiff_core.specs.Calendar.{days_from_civil}

-- the last year that a date may have
unfoldable pub last_year : ℕ
last_year = 9999

-- the year of a day: as many as the years from 0 on that end before it
unfoldable pub year_of_day : ℤ → ℕ
year_of_day day = count_by (λ y. int_le (days_from_civil (pos (y + 1)) 1 1) day) (range_with_len 0 last_year)

-- the month of a day of the year: one more than the months that end before it
unfoldable pub month_of_day : ℕ → ℤ → ℕ
month_of_day y day = count_by (λ m. int_le (days_from_civil (pos y) (m + 1) 1) day) (range_with_len 1 11) + 1

-- the place of a day in its month of the year, from 1
unfoldable pub place_of_day : ℕ → ℕ → ℤ → ℕ
place_of_day y m day = unsigned_abs (day -ℤ days_from_civil (pos y) m 1) + 1

-- a number below 100, in two digits
abbrev pub two_digit_text : ℕ → List ℕ
two_digit_text n = (48 + n / 10) ∷ (48 + n % 10) ∷ []

-- a number below 10000, in four digits
abbrev pub four_digit_text : ℕ → List ℕ
four_digit_text n = two_digit_text (n / 100) ++ two_digit_text (n % 100)

-- `YYYY-MM-DD` of these numbers
abbrev pub ymd_text : ℕ → ℕ → ℕ → List ℕ
ymd_text y m d = four_digit_text y ++ 45 ∷ two_digit_text m ++ 45 ∷ two_digit_text d

-- `YYYY-MM-DD` of a day of the years 0 to 9999
unfoldable pub day_text : ℤ → List ℕ
day_text day =
    let y = year_of_day day in
    let m = month_of_day y day in
    ymd_text y m (place_of_day y m day)

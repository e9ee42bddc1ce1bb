-- The days of a period: what contracts see of a `Period`.
use Rattle.std.specs.Prelude.{◌≡◌, ℕ, ℤ, pos, ◌+◌, ◌-◌, ◌^◌, ◌<◌, ◌≤◌, ◌&&◌, ◌+ℤ◌, ◌≤ℤ◌, Bool, nat_le, nat_lt, neg_ℤ, List, [], ◌∷◌, Option, length, map, slice_index}
use Rattle.std.specs.Int.{IsInRange}
use Rattle.std.specs.List.{find, range_with_len}
use Rattle.std.specs.List.Sorted.{IsStrictlyIncreasing}
use Rattle.std.specs.Ordering.{int_eq}
use Rattle.ob_base.specs.declared.interval.Interval.{Interval}

-- the day number of the first date, the bounds of the days in order, the last one's end among them,
-- and the text of the zone
pub record Calendar : Type 0 where
  pub first_day : ℤ
  pub bounds : List ℕ
  pub zone : List ℕ

-- a calendar of these parts
abbrev pub calendar : ℤ → List ℕ → List ℕ → Calendar
calendar first_day bounds zone = record { first_day = first_day; bounds = bounds; zone = zone }

-- how many days there are
abbrev pub day_count : Calendar → ℕ
day_count c = length c.bounds - 1

-- the second at which a day begins; at the number of days the second at which the last one ends
abbrev pub bound_of : Calendar → ℕ → ℕ
bound_of c k = slice_index c.bounds k

-- the first second
abbrev pub first_second_of : Calendar → ℕ
first_second_of c = bound_of c 0

-- the second after the last one
abbrev pub end_second_of : Calendar → ℕ
end_second_of c = bound_of c (day_count c)

-- the seconds of the day of this number
abbrev pub day_at : Calendar → ℕ → Interval
day_at c k = record { since = bound_of c k; until = bound_of c (k + 1) }

-- the days in order
abbrev pub days_of : Calendar → List Interval
days_of c = map (day_at c) (range_with_len 0 (day_count c))

-- how many seconds a day has
abbrev pub seconds_in : Interval → ℕ
seconds_in day = day.until - day.since

-- the day holds the second
abbrev pub holds : Interval → ℕ → Bool
holds day s = nat_le day.since s && nat_lt s day.until

-- the days part the seconds from a up to b: none is empty, the first begins at a, each further one
-- where the one before it ends, and the last ends at b
abbrev pub PartSeconds : ℕ → ℕ → List Interval → Type 0
PartSeconds a b [] = a ≡ b
PartSeconds a b (day ∷ days) = (day.since ≡ a) × (day.since < day.until) × PartSeconds day.until b days

-- the second lies in the period
abbrev pub IsInPeriod : Calendar → ℕ → Type 0
IsInPeriod c s = (first_second_of c ≤ s) × (s < end_second_of c)

-- the second lies in the day of this number, which is one of the period
abbrev pub IsInDay : Calendar → ℕ → ℕ → Type 0
IsInDay c k s = (k < day_count c) × (bound_of c k ≤ s) × (s < bound_of c (k + 1))

-- the day of this number, which is one of the period, has the date of this day number
abbrev pub IsDayOn : Calendar → ℕ → ℤ → Type 0
IsDayOn c k day = (k < day_count c) × (day ≡ c.first_day +ℤ pos k)

-- the number of the period's day whose day number this is, None where none is
abbrev pub day_on : Calendar → ℤ → Option ℕ
day_on c day = find (λ k. int_eq day (c.first_day +ℤ pos k)) (range_with_len 0 (day_count c))

-- what each period keeps: 1 to 366 days, bounds that rise strictly, fewer than 2^25 seconds, and
-- dates from 1969-12-31, whose midnight may be second 0 or later west of UTC, to 9999-12-31
pub record IsCalendar (c : Calendar) : Type 0 where
  pub count : length c.bounds ≡ day_count c + 1
  pub days : IsInRange 1 366 (day_count c)
  pub rising : IsStrictlyIncreasing c.bounds
  pub last : end_second_of c ≤ 99_999_999_999
  pub short : end_second_of c < first_second_of c + 2 ^ 25
  pub first_date : neg_ℤ (pos 1) ≤ℤ c.first_day
  pub last_date : (c.first_day +ℤ pos (day_count c)) ≤ℤ pos 2_932_896

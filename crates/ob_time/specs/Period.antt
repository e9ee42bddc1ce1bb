-- Which calendar a period of given days in a zone has.
use Rattle.std.specs.Prelude.{◌≡◌, ℕ, ℤ, pos, ◌+◌, ◌^◌, ◌<◌, ◌+ℤ◌, List, length, slice_index}
use Rattle.std.specs.Str.{IsAscii}
use Rattle.std.specs.Int.{IsInRange}
use Rattle.std.specs.List.Sorted.{IsStrictlyIncreasing}
use Rattle.jiff.specs.Placed.{IsPosixZone}
use Rattle.jiff.specs.Types.{Date, TimeZone}
use Rattle.jiff.specs.Words.{epoch_day}
use Rattle.ob_time.specs.Calendar.{Calendar, first_second_of, end_second_of}
use Rattle.ob_time.specs.Midnight.{IsMidnight}
use Rattle.ob_time.specs.Moment.{IsDateText}

-- the first k midnights of the zone from this day on, which rise strictly
pub record AreMidnights (zone : TimeZone) (first_day : ℤ) (k : ℕ) (bounds : List ℕ) : Type 0 where
  pub count : length bounds ≡ k
  pub each : (j : ℕ) → j < k → IsMidnight zone (first_day +ℤ pos j) (slice_index bounds j)
  pub rising : IsStrictlyIncreasing bounds

-- the calendar has this many days from this one on, each bounded by the zone's midnights
pub record IsPeriod (zone : TimeZone) (first_day : ℤ) (days : ℕ) (c : Calendar) : Type 0 where
  pub first : c.first_day ≡ first_day
  pub days_in : IsInRange 1 366 days
  pub midnights : AreMidnights zone first_day (days + 1) c.bounds
  pub short : end_second_of c < first_second_of c + 2 ^ 25

-- there is no such calendar
abbrev pub HasNoPeriod : TimeZone → ℤ → ℕ → Type 0
HasNoPeriod zone first_day days = (c : Calendar) → ¬ (IsPeriod zone first_day days c)

-- the text of a zone: the POSIX rule that 1 to 64 ASCII bytes read as
pub record IsZoneText (text : List ℕ) (zone : TimeZone) : Type 0 where
  pub len : IsInRange 1 64 (length text)
  pub ascii : IsAscii text
  pub rule : IsPosixZone text zone

-- the calendar is that of the date and the zone of these texts, and keeps the zone's
pub record IsPeriodText (first : List ℕ) (days : ℕ) (zone : List ℕ) (c : Calendar) : Type 0 where
  pub date : Date
  pub date_is : IsDateText first date
  pub rule : TimeZone
  pub rule_is : IsZoneText zone rule
  pub period : IsPeriod rule (epoch_day date) days c
  pub zone_is : c.zone ≡ zone

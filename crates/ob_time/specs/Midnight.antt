-- The seconds of midnights, by the offsets that `jiff` gives.
use Rattle.std.specs.Prelude.{◌≡◌, ℕ, ℤ, pos, ◌≤◌}
use Rattle.jiff.specs.Types.{AmbiguousOffset, DateTime, Fold, Gap, Offset, TimeZone, Unambiguous}
use Rattle.jiff.specs.Words.{ambiguous_at, earlier_offset, epoch_day, instant_of, nanos_of_seconds, time_nanos}

-- the offset that counts: in a gap the one before it, in a fold the one of the earlier instant
abbrev pub counted_offset : AmbiguousOffset → Offset
counted_offset (Unambiguous offset) = offset
counted_offset (Gap before after) = before
counted_offset (Fold before after) = earlier_offset (Fold before after)

-- the instant of a datetime in a zone, in nanoseconds since 1970-01-01T00:00:00Z
abbrev pub instant_in : TimeZone → DateTime → ℤ
instant_in zone datetime = instant_of datetime (counted_offset (ambiguous_at zone datetime))

-- the second is that of the midnight at which the day of this number begins in the zone, where
-- day 0 is 1970-01-01
pub record IsMidnight (zone : TimeZone) (day : ℤ) (second : ℕ) : Type 0 where
  pub midnight : DateTime
  pub date : epoch_day midnight.date ≡ day
  pub time : time_nanos midnight.time ≡ 0
  pub instant : instant_in zone midnight ≡ nanos_of_seconds (pos second)
  pub within : second ≤ 99_999_999_999

-- What a midnight's instant is, and that there is one at most.
use Rattle.std.proofs.Common.{◌≡◌, ◌∙◌, sym, ap, refl, ℕ, ℤ, pos, negsuc, ◌-ℤ◌, ◌*ℤ◌, arith, int_div, int_lt, to_z, of_z, w64, unsigned_abs, false, FitsSigned, to_z-of_z}
use Rattle.std.proofs.lemmas.Bool.{false≢true}
use Rattle.std.proofs.lemmas.Int.{quot-rem}
use Rattle.jiff_core.proofs.SignedLemmas.{int_rem-parts}
use Rattle.jiff.proofs.Family.{civil_nanos-parts, same_datetime}
use Rattle.jiff.specs.Types.{AmbiguousOffset, DateTime, Fold, Gap, TimeZone, Unambiguous}
use Rattle.jiff.specs.Words.{epoch_day, time_nanos, nanos_of_seconds, compatible_offset, ambiguous_at, IsTimestampNanos}
use Rattle.jiff.proofs.SpanFacts.{signed_arith}
use Rattle.ob_time.specs.Midnight.{IsMidnight, counted_offset, instant_in}

-- the offset that counts is the one that `jiff` calls compatible
pub counted_is_compatible : (a : AmbiguousOffset) → counted_offset a ≡ compatible_offset a
counted_is_compatible (Unambiguous offset) = refl
counted_is_compatible (Gap before after) = refl
counted_is_compatible (Fold before after) = refl

-- whole seconds divide back
pub seconds-nanos : (s : ℤ) → int_div (nanos_of_seconds s) (pos 1_000_000_000) ≡ s
seconds-nanos s =
    omega (arith, signed_arith, quot-rem (nanos_of_seconds s) (pos 1_000_000_000), int_rem-parts (nanos_of_seconds s) 1_000_000_000)

-- the instant of a midnight has no fraction of a second
abbrev pub picked_seconds : TimeZone → DateTime → ℤ
picked_seconds zone dt = epoch_day dt.date *ℤ pos 86_400 -ℤ (counted_offset (ambiguous_at zone dt)).seconds

pub picked-seconds : (zone : TimeZone) (dt : DateTime) → time_nanos dt.time ≡ 0 → instant_in zone dt ≡ nanos_of_seconds (picked_seconds zone dt)
picked-seconds zone dt e = omega (arith, signed_arith, civil_nanos-parts dt)

-- a day has one midnight
pub same_midnight : (a b : DateTime) → epoch_day a.date ≡ epoch_day b.date → time_nanos a.time ≡ 0 → time_nanos b.time ≡ 0 → a ≡ b
same_midnight a b day first second =
    same_datetime a b (omega (arith, signed_arith, civil_nanos-parts a, civil_nanos-parts b))

-- and one second
pub IsMidnight-only : (zone : TimeZone) (dt : DateTime) (day : ℤ) (s : ℕ) → epoch_day dt.date ≡ day → time_nanos dt.time ≡ 0 → IsMidnight zone day s → instant_in zone dt ≡ nanos_of_seconds (pos s)
IsMidnight-only zone dt day s same zero h =
    ap (instant_in zone) (same_midnight dt h.midnight (same ∙ sym h.date) zero h.time) ∙ h.instant

pub IsMidnight-unique : (zone : TimeZone) (day : ℤ) (s t : ℕ) → IsMidnight zone day s → IsMidnight zone day t → s ≡ t
IsMidnight-unique zone day s t h k =
    omega (arith, signed_arith, IsMidnight-only zone h.midnight day t h.date h.time k, h.instant)

-- the instant of a midnight is one that there is
pub IsMidnight-fits : (zone : TimeZone) (dt : DateTime) (day : ℤ) (s : ℕ) → epoch_day dt.date ≡ day → time_nanos dt.time ≡ 0 → IsMidnight zone day s → IsTimestampNanos (instant_in zone dt)
IsMidnight-fits zone dt day s same zero h =
    omega (arith, signed_arith, IsMidnight-only zone dt day s same zero h, h.within)

-- a number that is not negative, cast
pub cast_unsigned-value : (z : ℤ) → FitsSigned w64 z → int_lt (to_z w64 (of_z w64 z)) (pos 0) ≡ false → pos (unsigned_abs (to_z w64 (of_z w64 z))) ≡ z
cast_unsigned-value (pos n) fits low = rw (to_z-of_z fits) refl
cast_unsigned-value (negsuc n) fits low = absurd (false≢true (sym (rw (to_z-of_z fits) at low)))

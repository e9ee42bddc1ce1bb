-- Two rules that say the same pick the same instants.
use Rattle.std.proofs.Common.{◌≡◌, ◌∙◌, ap, refl, ℕ, pos, List, Option, Some, None, IsTrue, option_map}
use Rattle.std.proofs.Props.{props}
use mathlib.Core.HLevel.{is_prop→PathP}
use Rattle.jiff.specs.Placed.{IsPosixZone}
use Rattle.jiff.specs.Types.{DateTime, Offset, TimeZone, UTC, Unknown, Fixed, Posix, Tzif}
use Rattle.jiff.specs.Words.{ambiguous_at, tz_view, instant_of, civil_nanos, IsOffsetSeconds, IsWithin}
use Rattle.jiff_tz.specs.PosixRule as rule
use Rattle.jiff_tz.specs.PosixText.{DstText, TzText, dst_view, day_time_view}
use Rattle.jiff_tz.specs.declared.posix.DayTime.{DayTime}
use Rattle.jiff_tz.specs.declared.posix.Dst.{Dst}
use Rattle.jiff_tz.specs.declared.posix.TimeZone.{TimeZone as Rule}
use Rattle.ob_time.specs.Midnight.{counted_offset, instant_in}
use Rattle.jiff_tz.specs.PosixDay.{is_rule_day}

same_offset : (a b : Offset) → a.seconds ≡ b.seconds → a ≡ b
same_offset a b e = λ i. record {
  seconds = e i;
  in_range = is_prop→PathP (λ j. IsOffsetSeconds (e j)) (λ j. hlevel props) a.in_range b.in_range i;
}

same_day_time : (a b : DayTime) → day_time_view a ≡ day_time_view b → a ≡ b
same_day_time a b e = λ i. record {
  date = (e i).0;
  time = (e i).1;
  date_in = is_prop→PathP (λ j. IsTrue (is_rule_day (e j).0)) (λ j. hlevel props) a.date_in b.date_in i;
  time_in = is_prop→PathP (λ j. IsWithin 604_799 (e j).1) (λ j. hlevel props) a.time_in b.time_in i;
}

by_dst : (std : Offset) (dt : DateTime) (x y : Option Dst) → option_map dst_view x ≡ option_map dst_view y
    → rule.ambiguous_at_by std x dt ≡ rule.ambiguous_at_by std y dt
by_dst std dt None None e = refl
by_dst std dt None (Some b) e = cc
by_dst std dt (Some a) None e = cc
by_dst std dt (Some a) (Some b) e =
    let view : dst_view a ≡ dst_view b = cc in
    let offset = same_offset a.offset b.offset (ap (λ (d : DstText). d.seconds) view) in
    let start = same_day_time a.rule.start b.rule.start (ap (λ (d : DstText). d.start) view) in
    let finish = same_day_time a.rule.end b.rule.end (ap (λ (d : DstText). d.finish) view) in
    λ i. rule.ambiguous_by std (offset i)
    (rule.rule_nanos dt.date.year (start i) (pos 0), rule.rule_nanos dt.date.year (finish i) (pos 0))
    (civil_nanos dt)

by_rule : (a b : Rule) (dt : DateTime) → tz_view a ≡ tz_view b → rule.ambiguous_at a dt ≡ rule.ambiguous_at b dt
by_rule a b dt e =
    let std = same_offset a.std_offset b.std_offset (ap (λ (t : TzText). t.std_seconds) e) in
    ap (λ o. rule.ambiguous_at_by o a.dst dt) std ∙ by_dst b.std_offset dt a.dst b.dst (ap (λ (t : TzText). t.dst) e)

-- a text names one zone, as far as datetimes see it
pub IsPosixZone-picked : (text : List ℕ) (a b : TimeZone) (dt : DateTime) → IsPosixZone text a → IsPosixZone text b → instant_in a dt ≡ instant_in b dt
unfolding ambiguous_at
IsPosixZone-picked text (Posix a) (Posix b) dt h k =
    let same : tz_view a ≡ tz_view b = cc (h, k) in
    ap (λ o. instant_of dt (counted_offset o)) (by_rule a b dt same)
IsPosixZone-picked text UTC b dt h k = absurd h
IsPosixZone-picked text Unknown b dt h k = absurd h
IsPosixZone-picked text (Fixed o) b dt h k = absurd h
IsPosixZone-picked text (Tzif z) b dt h k = absurd h
IsPosixZone-picked text (Posix a) UTC dt h k = absurd k
IsPosixZone-picked text (Posix a) Unknown dt h k = absurd k
IsPosixZone-picked text (Posix a) (Fixed o) dt h k = absurd k
IsPosixZone-picked text (Posix a) (Tzif z) dt h k = absurd k

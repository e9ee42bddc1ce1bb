use Rattle.std.proofs.Common.{rules, arith, ◌∙◌, sym, ap, ◌≡◌, pos, FitsSigned, w64}
use Rattle.std.proofs.lemmas.Bool.{false≢true}
use Rattle.std.proofs.lemmas.Result.{IfOk-at_ok}
use Rattle.std.specs.Prelude.{int_div}
use Rattle.jiff.proofs.SpanFacts.{signed_arith}
use Rattle.jiff.specs.Types.{Timestamp}
use Rattle.jiff.specs.Words.{plain_zone, epoch_day, time_nanos, nanos_of_seconds}
use Rattle.ob_time.specs.Midnight.{instant_in}
use Rattle.ob_time.proofs.MidnightLemmas.{IsMidnight-only, IsMidnight-fits, seconds-nanos, picked-seconds, picked_seconds, cast_unsigned-value}
use Rattle.ob_time.proofs.midnight.midnight.Goals as goal

pub returns-in_default-clause-none : goal.returns-in_default-clause-none
returns-in_default-clause-none c = λ s h.
    let zone = plain_zone c.args.zone.now in
    let dt = c.to_datetime.result in
    let day = ap epoch_day c.to_datetime.ensures.date in
    let zero = ap time_nanos c.to_datetime.ensures.time ∙ c.midnight.ensures in
    let fits = IsMidnight-fits zone dt (epoch_day c.args.date) s day zero h in
    false≢true (rw c.in_default.is at c.picked_instant.ensures.succeeds.1 fits)

pub returns-then-second-lt0-clause-none : goal.returns-then-second-lt0-clause-none
returns-then-second-lt0-clause-none c = λ s h.
    let zone = plain_zone c.args.zone.now in
    let dt = c.to_datetime.result in
    let day = ap epoch_day c.to_datetime.ensures.date in
    let zero = ap time_nanos c.to_datetime.ensures.time ∙ c.midnight.ensures in
    let e = IsMidnight-only zone dt (epoch_day c.args.date) s day zero h in
    let at = IfOk-at_ok (λ (t : Timestamp). t.nanosecond ≡ instant_in zone dt) c.in-Ok.is c.picked_instant.ensures.value in
    let same : c.as_second-second.result ≡ pos s = c.as_second-second.ensures ∙ ap (λ n. int_div n (pos 1_000_000_000)) (at ∙ e) ∙ seconds-nanos (pos s) in
    let low = h.within in
    omega (arith, signed_arith)

pub returns-clause-found : goal.returns-clause-found
returns-clause-found c =
    let zone = plain_zone c.args.zone.now in
    let dt = c.to_datetime.result in
    let day = ap epoch_day c.to_datetime.ensures.date in
    let zero = ap time_nanos c.to_datetime.ensures.time ∙ c.midnight.ensures in
    let at = IfOk-at_ok (λ (t : Timestamp). t.nanosecond ≡ instant_in zone dt) c.in-Ok.is c.picked_instant.ensures.value in
    let whole = picked-seconds zone dt zero in
    let same : c.as_second-second.result ≡ picked_seconds zone dt = rw (at, whole, seconds-nanos) at c.as_second-second.ensures in
    let fits : FitsSigned w64 c.as_second-second.result = search rules in
    let value = cast_unsigned-value c.as_second-second.result fits c.if-second-lt0.false in
    record {
      midnight = dt;
      date = day;
      time = zero;
      instant = whole ∙ ap nanos_of_seconds (sym same ∙ sym value);
      within = omega (arith, signed_arith, value);
    }

use Rattle.std.proofs.Common.{[], arith}
use Rattle.ob_time.proofs.clock.hours_minutes.Goals as goal

pub returns-in_err-minutes-clause-none : goal.returns-in_err-minutes-clause-none
returns-in_err-minutes-clause-none c =
    rw c.from_residual-in_err-minutes.ensures (λ n h.
    let small = h.minute in
    c.in_err-minutes.ensures h.m [] (omega arith) (cc (h.text_is, c.in_ok-hours.ensures.1, c.in_ok-after.ensures.found)))

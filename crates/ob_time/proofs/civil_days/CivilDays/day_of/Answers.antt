use Rattle.std.proofs.Common.{arith}
use Rattle.ob_time.proofs.PeriodLemmas.{IsInDay-in_period}
use Rattle.ob_time.proofs.civil_days.CivilDays.day_of.Goals as goal
use Rattle.ob_time.proofs.civil_days.CivilDays.day_of.Goals.{then-second-first_second-via-then-second-first_second, then-second-first_second-via-else-second-first_second+then-end_second-second}

pub returns-then-second-first_second-clause-none : goal.returns-then-second-first_second-clause-none
returns-then-second-first_second-clause-none c = λ j h.
    let inside = IsInDay-in_period _ j c.args.second c.first_second.ensures.kept h in
    elim c.then-second-first_second.branch [
      | then-second-first_second-via-then-second-first_second w ↦ omega (arith, inside, c.first_second.ensures.value, w.if-second-first_second.true)
      | then-second-first_second-via-else-second-first_second+then-end_second-second w ↦ omega (arith, inside, w.end_second.ensures.value, w.if-end_second-second.true)
    ]

use Rattle.ob_time.proofs.PeriodLemmas.{IsMidnight-day}
use Rattle.ob_time.proofs.bounds.bound_after.Goals as goal

pub returns-in-Some-clause-none : goal.returns-in-Some-clause-none
returns-in-Some-clause-none c = rw (← c.in-Some.ensures.found) c.midnight.ensures.none

pub returns-in-None-clause-none : goal.returns-in-None-clause-none
returns-in-None-clause-none c = λ s h. c.in-None.ensures.none (IsMidnight-day _ _ s h)

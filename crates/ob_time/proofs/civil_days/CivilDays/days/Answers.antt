use Rattle.std.proofs.Common.{subst, rules}
use Rattle.ob_time.specs.Calendar.{IsCalendar}
use Rattle.ob_time.proofs.DayLemmas.{days_of-part, length-days_of, PartSeconds-once}
use Rattle.ob_time.proofs.civil_days.CivilDays.days.Goals as goal

pub returns-clause-listed : goal.returns-clause-listed
returns-clause-listed c =
    let len = length-days_of c.args.self.now in
    rw len (search rules)

pub returns-clause-parts : goal.returns-clause-parts
returns-clause-parts c = days_of-part c.args.self.now (subst IsCalendar c.self.view_is c.self.invariant)

pub returns-clause-once : goal.returns-clause-once
returns-clause-once c = λ s h. PartSeconds-once _ _ s _ (returns-clause-parts c) h.0 h.1

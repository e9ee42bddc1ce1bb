use Rattle.std.proofs.Common.{arith}
use Rattle.ob_time.proofs.DayLemmas.{days_of-at}
use Rattle.ob_time.proofs.civil_days.CivilDays.day_bounds.Goals as goal

pub returns-clause-listed : goal.returns-clause-listed
returns-clause-listed c = days_of-at c.args.self.now c.args.day (omega (arith, c.if-day-days.false, c.days.ensures.value))

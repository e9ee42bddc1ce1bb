use Rattle.std.proofs.Common.{ℕ, sym, rules}
use Rattle.ob_time.specs.Calendar.{IsDayOn}
use Rattle.ob_time.proofs.DayOnLemmas.{day_on_found, day_on_none}
use Rattle.ob_time.proofs.civil_days.CivilDays.index_of.Goals as goal

pub returns-then-day-lt0-clause-index : goal.returns-then-day-lt0-clause-index
returns-then-day-lt0-clause-index c =
    let none : (k : ℕ) → ¬ (IsDayOn c.args.self.now k c.args.day_number) = search rules in
    sym (day_on_none c.args.self.now c.args.day_number none)

pub returns-clause-index : goal.returns-clause-index
returns-clause-index c =
    sym (day_on_found c.args.self.now c.args.day_number _ (search rules))

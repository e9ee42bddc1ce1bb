use Rattle.std.proofs.Common.{rules}
use Rattle.ob_time.specs.Moment.{IsDateText}
use Rattle.ob_time.proofs.PeriodLemmas.{IsDateText-unique}
use Rattle.ob_time.proofs.date.read_date.Goals as goal

pub returns-in-Ok-clause-only : goal.returns-in-Ok-clause-only
returns-in-Ok-clause-only c = λ e h.
    let found : IsDateText c.args.text.now c.in-Ok.date = search rules in
    IsDateText-unique c.args.text.now e c.in-Ok.date h found

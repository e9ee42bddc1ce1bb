use Rattle.std.proofs.Common.{◌∙◌, sym, ap}
use Rattle.ob_state.specs.declared.retiming.Retiming.{Retiming}
use Rattle.ob_book.specs.Intervals.{runs_then}
use Rattle.ob_book.proofs.intervals.runs_after.Goals as goal

pub returns-in-Same : goal.returns-in-Same
returns-in-Same g c =
    c.runs_of.ensures.runs ∙ sym (ap (λ (r : Retiming). runs_then r (g.T.Timeline.content c.args.timeline.now) c.args.node) c.in-Same.is)

pub returns-in-By : goal.returns-in-By
returns-in-By g c =
    c.runs_by.ensures ∙ sym (ap (λ (r : Retiming). runs_then r (g.T.Timeline.content c.args.timeline.now) c.args.node) c.in-By.is)

use Rattle.std.proofs.Common.{◌≡◌, ◌∙◌, sym, ap, List, Option, None, unwrap_or}
use Rattle.ob_sweep.specs.Deltas.{new_runs}
use Rattle.ob_sweep.specs.Timeline.{runs_at}
use Rattle.ob_sweep.specs.declared.Run.{Run}
use Rattle.ob_book.proofs.PlannedIntervals.{some_true}
use Rattle.ob_book.proofs.Unchanged.{isnt_found}
use Rattle.ob_book.proofs.intervals.runs_by.Goals as goal

pub runs-requires : goal.runs-requires
runs-requires g c = some_true (new_runs c.args.delta.now c.args.node) (sym c.is_touched.ensures ∙ c.if-is_touched.true)

pub returns-then-is_touched : goal.returns-then-is_touched
returns-then-is_touched g c =
    sym (ap (λ (o : Option (List Run)). unwrap_or o (runs_at (g.T.Timeline.content c.args.timeline.now) c.args.node)) c.runs.ensures.runs)

pub returns : goal.returns
returns g c =
    let none : new_runs c.args.delta.now c.args.node ≡ None = isnt_found (new_runs c.args.delta.now c.args.node) (sym c.is_touched.ensures ∙ c.if-is_touched.false) in
    c.runs_of.ensures.runs ∙ sym (ap (λ (o : Option (List Run)). unwrap_or o (runs_at (g.T.Timeline.content c.args.timeline.now) c.args.node)) none)

use Rattle.std.proofs.Common.{◌<◌, ◌+◌, List, length, subst, sym, ◌∙◌, arith, set}
use Rattle.std.specs.List.{All}
use Rattle.std.proofs.lemmas.List.{take_all}
use Rattle.ob_base.specs.declared.Pos.TheVariants.{Closed}
use Rattle.ob_net.proofs.Forests.{was_open}
use Rattle.ob_sheet.specs.declared.Entry.{Entry}
use Rattle.ob_sweep.proofs.Closing.{Closing, LeavesClosed, closing_more, closing_open}
use Rattle.ob_sweep.proofs.near.close_each.Goals.{then-eq, else-eq}
use Rattle.ob_sweep.proofs.near.close_each.Goals as goal

pub loop-step-preserved : goal.loop-step-preserved
loop-step-preserved c =
    let x : Entry = c.step-item.result in
    let steps = c.args.steps.now in
    let i = c.loop-step.step-index in
    elim c.if-eq.branch [
      | then-eq w ↦
          rw w.positions-is
          (subst (λ k. Closing c.args.positions.now steps (i + 1) (set c.loop-step.positions k Closed)) (sym w.from.ensures)
          (closing_more c.args.positions.now steps i x c.loop-step.positions c.loop-step-test.true c.step-item.is
          (let l : x.device < length c.args.positions.now = subst (λ (e : Entry). e.device < length c.args.positions.now) (sym c.step-item.is) (c.requires.devices i x c.loop-step-test.true) in
          omega (arith, l, c.loop-step.invariant.long)) c.loop-step.invariant))
      | else-eq w ↦
          rw w.positions-is
          (closing_open c.args.positions.now steps i x c.loop-step.positions c.loop-step-test.true c.step-item.is (was_open x.pos (sym c.eq.ensures ∙ w.if-eq.false)) c.loop-step.invariant)
    ]

pub returns-clause-closed : goal.returns-clause-closed
returns-clause-closed c =
    subst (λ (es : List Entry). All (LeavesClosed c.loop-step.positions) es) (take_all c.loop-step.step-index c.args.steps.now c.loop-step-test.false) c.loop-step.invariant.closed

use Rattle.std.proofs.Common.{◌<◌, ◌++◌, ◌∷◌, [], Bool, length, sym, ap, subst, ◌∙◌}
use Rattle.std.specs.List.{filter}
use Rattle.std.proofs.lemmas.List.{take_all}
use Rattle.ob_net.specs.Reach.{is_reached}
use Rattle.ob_sheet.specs.declared.Entry.{Entry}
use Rattle.ob_sweep.specs.Near.{acts_at}
use Rattle.ob_sweep.proofs.Closing.{fails_more, passes_more}
use Rattle.ob_sweep.proofs.near.steps_near.Goals.{then-is_at+in_ok-push, else-is_at}
use Rattle.ob_sweep.proofs.near.steps_near.Goals as goal

pub is_at-requires-clause-device : goal.is_at-requires-clause-device
is_at-requires-clause-device c =
    subst (λ (e : Entry). e.device < length c.args.net.now.network.devices) (sym c.step-item.is) (c.requires.devices c.loop-step.step-index c.step-item.result c.loop-step-test.true)

pub loop-step-preserved : goal.loop-step-preserved
loop-step-preserved c =
    let p : Entry → Bool = acts_at c.args.net.now.network (is_reached c.args.near.now) in
    let i = c.loop-step.step-index in
    let x : Entry = c.step-item.result in
    elim c.if-is_at.branch [
      | then-is_at+in_ok-push w ↦
          rw w.kept-is
          (w.in_ok-push.ensures.items ∙ ap (λ xs. xs ++ x ∷ []) c.loop-step.invariant
          ∙ passes_more p c.args.steps.now i x c.loop-step-test.true c.step-item.is (sym c.is_at.ensures ∙ w.if-is_at.true))
      | else-is_at w ↦
          rw w.kept-is
          (c.loop-step.invariant ∙ fails_more p c.args.steps.now i x c.loop-step-test.true c.step-item.is (sym c.is_at.ensures ∙ w.if-is_at.false))
    ]

pub returns : goal.returns
returns c =
    c.loop-step.invariant
    ∙ ap (filter (acts_at c.args.net.now.network (is_reached c.args.near.now))) (take_all c.loop-step.step-index c.args.steps.now c.loop-step-test.false)

use Rattle.std.proofs.Common.{◌∙◌, sym, ap, arith, ◌++◌, [], ◌∷◌}
use Rattle.ob_state.specs.Next.{next}
use Rattle.ob_book.specs.Forecasts.{section_change}
use Rattle.ob_book.proofs.Rowing.{one_more, no_more}
use Rattle.ob_book.proofs.forecast.section_changes.Goals.{in-Some+in_ok-push, in_default}
use Rattle.ob_book.proofs.forecast.section_changes.Goals as goal

pub loop-node-preserved : goal.loop-node-preserved
loop-node-preserved g c =
    let b = c.args.state.now.state in
    let d = next b c.args.plan.now.command in
    let n = c.loop-node.node in
    elim c.match-branch-2.branch [
      | in-Some+in_ok-push w ↦ ap (λ r. r.items) w.changes-is
          ∙ w.in_ok-push.ensures.items
          ∙ ap (λ xs. xs ++ w.in-Some.change ∷ []) c.loop-node.invariant
          ∙ sym (one_more (section_change b d) 0 n n w.in-Some.change (omega arith) (sym c.in_ok-change.ensures.change ∙ w.in-Some.is))
      | in_default w ↦ ap (λ r. r.items) w.changes-is ∙ c.loop-node.invariant ∙ sym (no_more (section_change b d) 0 n n (omega arith) (sym c.in_ok-change.ensures.change ∙ w.in_default.is))
    ]

use Rattle.std.proofs.Common.{◌∙◌, sym, ap, arith, ◌++◌, [], ◌∷◌}
use Rattle.ob_book.specs.Supplies.{unsupplied}
use Rattle.ob_book.proofs.Rowing.{one_more, no_more}
use Rattle.ob_book.proofs.supply.unsupplied_sections.Goals.{in-Some+in_ok-push, in_default}
use Rattle.ob_book.proofs.supply.unsupplied_sections.Goals as goal

pub loop-node-preserved : goal.loop-node-preserved
loop-node-preserved g c =
    let found = unsupplied c.args.state.now.state c.args.second in
    let v = c.loop-node.node in
    elim c.match-unsupplied_section.branch [
      | in-Some+in_ok-push w ↦ ap (λ l. l.items) w.sections-is
          ∙ w.in_ok-push.ensures.items
          ∙ ap (λ xs. xs ++ w.in-Some.section ∷ []) c.loop-node.invariant
          ∙ sym (one_more found 0 v v w.in-Some.section (omega arith) (sym c.unsupplied_section.ensures ∙ w.in-Some.is))
      | in_default w ↦ ap (λ l. l.items) w.sections-is ∙ c.loop-node.invariant ∙ sym (no_more found 0 v v (omega arith) (sym c.unsupplied_section.ensures ∙ w.in_default.is))
    ]

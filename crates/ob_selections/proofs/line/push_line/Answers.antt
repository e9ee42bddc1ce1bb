use Rattle.std.proofs.Common.{[], ◌∷◌}
use Rattle.std.specs.List.{flat_map}
use Rattle.ob_selections.specs.Formulas.{listed}
use Rattle.ob_selections.specs.Lines.{count_fields, index_fields, key_fields, service_fields}
use Rattle.ob_selections.proofs.Texts.{five_parts}
use Rattle.ob_selections.proofs.line.push_line.Goals as goal

pub returns-clause-ok : goal.returns-clause-ok
returns-clause-ok c =
    let k = c.args.figures.now in
    rw (
      c.in_ok-push.ensures.items,
      c.in_ok-push_indices.ensures.ok,
      c.in_ok-push_counts.ensures.ok,
      c.in_ok-push_service.ensures.ok,
      c.in_ok-push_key.ensures.ok,
    )
    (five_parts c.args.text.now.items (key_fields c.args.key.now c.args.set.now) (service_fields k) (count_fields k) (flat_map (index_fields c.args.all_days k) listed) (10 ∷ []))

use Rattle.std.proofs.Common.{[], ◌∷◌}
use Rattle.std.specs.List.{flat_map}
use Rattle.ob_selections.specs.Formulas.{listed}
use Rattle.ob_selections.specs.Lines.{index_columns}
use Rattle.ob_selections.proofs.Texts.{three_parts}
use Rattle.ob_selections.proofs.line.push_header.Goals as goal

pub returns-clause-ok : goal.returns-clause-ok
returns-clause-ok c =
    rw (c.in_ok-push.ensures.items, c.in_ok-push_index_columns.ensures.ok, c.in_ok-extend_from_slice.ensures.items)
    (three_parts c.args.text.now.items _ (flat_map index_columns listed) (10 ∷ []))

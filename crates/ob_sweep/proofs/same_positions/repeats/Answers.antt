use Rattle.std.proofs.Common.{false, sym, ap, ◌∙◌}
use Rattle.std.specs.Option.{option_map_or}
use Rattle.ob_sweep.specs.SamePositions.{is_same}
use Rattle.ob_sweep.proofs.same_positions.repeats.Goals as goal

pub returns-clause-same : goal.returns-clause-same
returns-clause-same c =
    c.is_same.ensures ∙ ap (λ o. option_map_or (is_same c.args.entry.now.pos) o false) (sym c.position_before.ensures.position)

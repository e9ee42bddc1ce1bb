use Rattle.std.proofs.Common.{◌≡◌}
use Rattle.std.specs.List.{filter_map, range_with_len}
use Rattle.ob_state.specs.Next.{next}
use Rattle.ob_book.specs.Forecasts.{section_change}
use Rattle.ob_book.proofs.forecast.section_changes.Given as goal

-- the changed sections of the numbers so far
abbrev pub invariant-loop-node : goal.invariant-loop-node
invariant-loop-node g l =
    l.changes.items ≡ filter_map (section_change l.fn.state.state (next l.fn.state.state l.fn.plan.command)) (range_with_len 0 l.node)

use Rattle.std.proofs.Common.{◌≡◌}
use Rattle.std.specs.List.{filter_map, range_with_len}
use Rattle.ob_book.specs.Supplies.{unsupplied}
use Rattle.ob_book.proofs.supply.unsupplied_sections.Given as goal

-- the sections without supply among the nodes so far
abbrev pub invariant-loop-node : goal.invariant-loop-node
invariant-loop-node g l = l.sections.items ≡ filter_map (unsupplied l.fn.state.state l.fn.second) (range_with_len 0 l.node)

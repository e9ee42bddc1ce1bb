use Rattle.std.proofs.Common.{◌≡◌, ◌-◌, ◌*◌, ◌^◌}
use Rattle.ob_selections.specs.Sums.{AreAtMost}
use Rattle.ob_selections.proofs.Summed.{AreSummed, below, over}
use Rattle.ob_selections.proofs.counting.figures_of.Given as goal

-- the customers of the nodes so far are counted
abbrev pub invariant-loop-node : goal.invariant-loop-node
invariant-loop-node g l = record {
  summed : AreSummed (over l.book.state l.selection (below l.node l.book.state.customers)) l.figures;
  small : AreAtMost (l.node * 2 ^ 42) l.figures;
  length : l.figures.length ≡ l.days.until - l.days.since;
}

use Rattle.ob_sweep.proofs.Untouched.{AreApart}
use Rattle.ob_sweep.proofs.one_device.tracked_nodes.Given as goal

abbrev pub invariant-loop-node : goal.invariant-loop-node
invariant-loop-node l = AreApart l.tracks l.first l.node l.nodes.items l.marks.items

use Rattle.std.proofs.Common.{◌≡◌, ℕ, cond, take}
use Rattle.ob_net.specs.Nodes.{is_among}
use Rattle.ob_net.specs.Reach.{is_reached}
use Rattle.ob_net.proofs.node_set.set_flags.Given as goal

abbrev pub invariant-loop-node : goal.invariant-loop-node
invariant-loop-node l =
    (v : ℕ) → is_reached l.flags v ≡ cond (is_among (take l.node-index l.nodes) v) l.value (is_reached l.initial.flags v)

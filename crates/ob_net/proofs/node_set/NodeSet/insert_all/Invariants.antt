use Rattle.std.proofs.Common.{◌≡◌, ◌||◌, ℕ, take}
use Rattle.ob_net.specs.Nodes.{is_among}
use Rattle.ob_net.proofs.node_set.NodeSet.insert_all.Given as goal

abbrev pub invariant-loop-node : goal.invariant-loop-node
invariant-loop-node l = record {
  size : l.self.size ≡ l.initial.self.size;
  nodes : (v : ℕ) → is_among l.self.nodes v ≡ (is_among l.initial.self.nodes v || is_among (take l.node-index l.nodes) v);
}

use Rattle.std.proofs.Common.{◌≡◌, ℕ, ◌-◌, ◌≤◌, length}
use Rattle.ob_net.specs.Joints.{IsExplored}
use Rattle.ob_net.proofs.component.finish.Given as goal

abbrev pub invariant-loop-next : goal.invariant-loop-next
invariant-loop-next l = record {
  size : l.found.size ≡ l.joints.nodes;
  explored : (start : ℕ) → IsExplored l.joints.ends l.positions start l.fn.found.nodes l.from → IsExplored l.joints.ends l.positions start l.found.nodes l.next;
  kept : length l.fn.found.nodes ≤ l.from → l.found.nodes ≡ l.fn.found.nodes;
  on : l.from ≤ l.next;
}

abbrev pub decreases-loop-next : goal.decreases-loop-next
decreases-loop-next l = l.joints.nodes - l.next

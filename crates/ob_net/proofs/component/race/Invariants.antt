use Rattle.std.proofs.Common.{◌≡◌, ℕ, ◌-◌}
use Rattle.ob_net.specs.Joints.{IsExplored}
use Rattle.ob_net.proofs.component.race.Given as goal

abbrev pub invariant-loop-next : goal.invariant-loop-next
invariant-loop-next l = record {
  size : l.one.size ≡ l.joints.nodes;
  other_size : l.other.size ≡ l.joints.nodes;
  explored : (start : ℕ) → IsExplored l.joints.ends l.positions start l.fn.one.nodes 0 → IsExplored l.joints.ends l.positions start l.one.nodes l.next;
  other_explored : (start : ℕ) → IsExplored l.joints.ends l.positions start l.fn.other.nodes 0 → IsExplored l.joints.ends l.positions start l.other.nodes l.next;
}

abbrev pub decreases-loop-next : goal.decreases-loop-next
decreases-loop-next l = l.joints.nodes - l.next

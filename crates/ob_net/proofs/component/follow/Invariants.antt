use Rattle.std.proofs.Common.{◌≡◌}
use Rattle.ob_net.proofs.Components.{AreFound}
use Rattle.ob_net.proofs.component.follow.Given as goal

abbrev pub invariant-loop-joint : goal.invariant-loop-joint
invariant-loop-joint l = record {
  size : l.found.size ≡ l.joints.nodes;
  found : AreFound l.joints.ends l.positions l.node l.fn.found.nodes l.joint l.found.nodes;
}

abbrev pub decreases-loop-joint : goal.decreases-loop-joint
decreases-loop-joint l = l.joint

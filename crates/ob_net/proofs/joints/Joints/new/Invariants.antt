use Rattle.ob_net.proofs.Chains.{AreLinked}
use Rattle.ob_net.proofs.joints.Joints.new.Given as goal

abbrev pub invariant-loop-number : goal.invariant-loop-number
invariant-loop-number l = AreLinked l.nodes l.devices l.number l.last.items l.joints.items

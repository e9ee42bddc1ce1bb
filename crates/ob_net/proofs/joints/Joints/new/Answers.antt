use Rattle.std.proofs.Common.{arith}
use Rattle.ob_net.specs.declared.net.Device.{Device}
use Rattle.ob_net.proofs.Chains.{chained_all, linked_more}
use Rattle.ob_net.proofs.joints.Joints.new.Goals as goal

pub loop-number-preserved : goal.loop-number-preserved
loop-number-preserved c =
    let d : Device = c.index-devices-number.result in
    let number = c.loop-number.number in
    let l = c.loop-number-test.true in
    let j = c.requires.joins number d l in
    let is = c.index-devices-number.is in
    rw c.in_ok-push.ensures.items
    (linked_more c.args.nodes c.args.devices.now number c.loop-number.last.items c.loop-number.joints.items d c.index.result.now c.index-in-loop-number.result.now l is
    (rw (← is) at j.a_is_node) (rw (← is) at j.b_is_node) c.index.ensures c.index-in-loop-number.ensures c.loop-number.invariant)

pub invariant_of-result : goal.invariant_of-result
invariant_of-result c =
    let end = c.loop-number-test.false in
    let most = c.loop-number.auto.number-end in
    chained_all c.args.nodes c.args.devices.now c.loop-number.number c.loop-number.last.items c.loop-number.joints.items (omega (arith, end, most)) c.requires.few c.requires.joins c.loop-number.invariant

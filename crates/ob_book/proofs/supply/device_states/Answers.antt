use Rattle.std.proofs.Common.{◌≡◌, ◌∙◌, ap, arith, map, length}
use Rattle.std.specs.List.{enumerate_from}
use Rattle.std.proofs.lemmas.List.{take_all, length-map}
use Rattle.std.proofs.lemmas.List.FromFn.{length-enumerate_from}
use Rattle.ob_net.specs.Network.{Network}
use Rattle.ob_book.specs.Supplies.{device_state}
use Rattle.ob_book.proofs.Supplied.{next_of}
use Rattle.ob_book.proofs.supply.device_states.Goals as goal

pub loop-device-preserved : goal.loop-device-preserved
loop-device-preserved c =
    let b = c.args.state.now.state in
    let all = map (device_state b c.args.second) (enumerate_from 0 b.network.devices) in
    c.in_ok-push.ensures.items ∙ next_of all c.loop-device.devices.items c.loop-device.device c.device_at.result c.loop-device.invariant c.device_at.ensures

pub returns-clause-devices : goal.returns-clause-devices
returns-clause-devices c =
    let b = c.args.state.now.state in
    let listed = enumerate_from 0 b.network.devices in
    let all = map (device_state b c.args.second) listed in
    let long : length all ≡ length b.network.devices = length-map listed (device_state b c.args.second) ∙ length-enumerate_from 0 b.network.devices in
    let count : c.devices-device-end.result ≡ length b.network.devices = c.devices-device-end.ensures.count ∙ ap (λ (n : Network). length n.devices) c.net.ensures.network in
    c.loop-device.invariant ∙ take_all c.loop-device.device all (omega (arith, c.loop-device-test.false, c.loop-device.auto, long, count))

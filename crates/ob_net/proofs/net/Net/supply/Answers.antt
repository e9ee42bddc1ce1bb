use Rattle.std.proofs.Common.{◌≡◌, ap, length, subst, sym, ◌∙◌}
use Rattle.std.proofs.lemmas.List.FromFn.{length-map-range_with_len}
use Rattle.ob_net.specs.Joints.{DeviceEnds, ends_of}
use Rattle.ob_net.specs.Network.{IsNetwork, NetState, Network}
use Rattle.ob_net.specs.Walk.{is_supplied}
use Rattle.ob_net.proofs.Supplied.{supplied_component}
use Rattle.ob_net.proofs.net.Net.supply.Goals as goal

pub new-requires-2-clause-count : goal.new-requires-2-clause-count
new-requires-2-clause-count c =
    let net : Network = c.args.self.now.network in
    ap length c.in_ok-live.ensures.supplied ∙ length-map-range_with_len (is_supplied net c.deref.result.now) 0 (length net.nodes)
    ∙ sym (
    ap (λ (j : DeviceEnds). j.nodes) c.in_ok-joints.ensures ∙ c.len.ensures ∙ c.self.inside.nodes.ok.0 ∙ ap (λ (n : NetState). length n.network.nodes) c.self.view_is
    ∙ ap (λ (n : Network). length n.nodes) c.supplied.ensures.network
    )

pub new-requires-2-clause-live : goal.new-requires-2-clause-live
new-requires-2-clause-live c =
    let net : Network = c.args.self.now.network in
    let same : c.in_ok-joints.joints.ends ≡ ends_of net.devices =
    ap (λ (j : DeviceEnds). j.ends) c.in_ok-joints.ensures
    ∙ ap ends_of (c.deref-2.ensures.value ∙ ap (λ (n : NetState). n.network.devices) c.self.view_is ∙ ap (λ (n : Network). n.devices) c.supplied.ensures.network) in
    supplied_component net c.in_ok-joints.joints.ends c.args.positions.items c.in_ok-live.live.items same
    (subst IsNetwork c.supplied.ensures.network (subst (λ (n : NetState). IsNetwork n.network) c.self.view_is c.self.invariant.0.network))
    (rw c.deref.ensures.value at c.in_ok-live.ensures.supplied)

use Rattle.std.proofs.Common.{◌≡◌, ℕ, ◌<◌, subst, ◌∙◌, Some, length, map, set, sym, ap, arith}
use Rattle.ob_net.specs.Network.{Network, as_of}
use Rattle.ob_sweep.specs.Steps.{IsSupplyAt, all_runs_until, push_all, supplied_nodes}
use Rattle.std.specs.List.{All}
use Rattle.ob_sweep.proofs.Lists.{push_all-same}
use Rattle.ob_sweep.proofs.Moved.{supply_as, supply_moved}
use Rattle.ob_sweep.proofs.Passing.{stepped, unmoved}
use Rattle.ob_sweep.proofs.Sweeps.{length-supplied}
use Rattle.ob_sweep.proofs.sweep.take_step.Goals as goal

pub switch-requires-clause-of : goal.switch-requires-clause-of
switch-requires-clause-of c = rw c.pass_lives.ensures.network c.in_ok-supply.ensures.supplied.of

pub record_changed-requires-clause-lists : goal.record_changed-requires-clause-lists
record_changed-requires-clause-lists c =
    let net : Network = c.args.net.now.network in
    let now : Network = c.pass_lives.new.net.network in
    c.pass_lives.ensures.count ∙ c.requires.lists ∙ sym (ap length (c.live.ensures ∙ c.switch.ensures.supplied) ∙ length-supplied now c.switch.new.supply.positions ∙ ap (λ (n : Network). length n.nodes) c.pass_lives.ensures.network)

pub record_changed-requires-clause-below : goal.record_changed-requires-clause-below
record_changed-requires-clause-below c =
    let net : Network = c.args.net.now.network in
    let now : Network = c.pass_lives.new.net.network in
    let old : length c.in_ok-supply.supply.live ≡ length net.nodes = ap length c.in_ok-supply.ensures.supplied.live ∙ length-supplied net (as_of net.devices c.args.step.now.second c.args.entered.now) in
    let new : length c.live.result.now ≡ length net.nodes = ap length (c.live.ensures ∙ c.switch.ensures.supplied) ∙ length-supplied now c.switch.new.supply.positions ∙ ap (λ (n : Network). length n.nodes) c.pass_lives.ensures.network in
    rw c.changed.ensures (subst (λ (n : ℕ). All (λ v. v < n) c.switch.new.supply.changed) (old ∙ sym new) c.switch.ensures.changed.below)

pub record_changed-requires-clause-distinct : goal.record_changed-requires-clause-distinct
record_changed-requires-clause-distinct c = rw c.changed.ensures c.switch.ensures.changed.distinct

pub returns-then-eq-clause-supplied : goal.returns-then-eq-clause-supplied
returns-then-eq-clause-supplied c =
    let net : Network = c.args.net.now.network in
    let step = c.args.step.now in
    let stays : set c.args.entered.now step.device step.pos ≡ c.args.entered.now = unmoved _ _ _ _ _ c.from-device.ensures (sym c.eq.ensures ∙ c.if-eq.true) in
    supply_as net (as_of net.devices step.second c.args.entered.now) (as_of net.devices step.second (set c.args.entered.now step.device step.pos)) c.in_ok-supply.supply
    (ap (as_of net.devices step.second) (sym stays)) c.in_ok-supply.ensures.supplied

pub returns-clause-supplied : goal.returns-clause-supplied
returns-clause-supplied c =
    let net : Network = c.args.net.now.network in
    let step = c.args.step.now in
    supply_moved net (as_of net.devices step.second c.args.entered.now) (as_of net.devices step.second (set c.args.entered.now step.device step.pos)) c.in_ok-supply.supply c.switch.new.supply step.device c.position_at-pos.result
    c.in_ok-supply.ensures.supplied (rw c.pass_lives.ensures.network at c.switch.ensures.of) c.switch.ensures.positions
    (rw c.pass_lives.ensures.network at (c.position_at-pos.ensures c.args.entered.now)) (rw c.pass_lives.ensures.network at c.switch.ensures.supplied)

pub returns-then-eq-clause-runs : goal.returns-then-eq-clause-runs
returns-then-eq-clause-runs c = λ first before l kept until come is were.
    let net : Network = c.args.net.now.network in
    let step = c.args.step.now in
    let end = c.args.end in
    let stays : set c.args.entered.now step.device step.pos ≡ c.args.entered.now = unmoved _ _ _ _ _ c.from-device.ensures (sym c.eq.ensures ∙ c.if-eq.true) in
    let nodes = supplied_nodes net (as_of net.devices step.second c.args.entered.now) in
    let lists = all_runs_until net before step.second first end in
    c.in_ok-supply.ensures.runs first before l until is were
    ∙ sym (push_all-same step.second end (Some step.no) 0 nodes lists)
    ∙ ap (λ q. push_all 0 nodes (supplied_nodes net (as_of net.devices step.second q)) step.second end (Some step.no) lists) (sym stays)
    ∙ stepped net c.args.entered.now step first end before kept come (omega (arith, l, c.requires.rising)) c.requires.below is

pub returns-clause-runs : goal.returns-clause-runs
returns-clause-runs c = λ first before l kept until come is were.
    let net : Network = c.args.net.now.network in
    let step = c.args.step.now in
    let end = c.args.end in
    let old : IsSupplyAt net (as_of net.devices step.second c.args.entered.now) c.in_ok-supply.supply = c.in_ok-supply.ensures.supplied in
    let new : IsSupplyAt net (as_of net.devices step.second (set c.args.entered.now step.device step.pos)) c.switch.new.supply = returns-clause-supplied c in
    let now : c.live.result.now ≡ supplied_nodes net (as_of net.devices step.second (set c.args.entered.now step.device step.pos)) = c.live.ensures ∙ new.live in
    let long : length c.in_ok-supply.supply.live ≡ length c.live.result.now =
    ap length old.live ∙ length-supplied net (as_of net.devices step.second c.args.entered.now)
    ∙ sym (ap length now ∙ length-supplied net (as_of net.devices step.second (set c.args.entered.now step.device step.pos))) in
    let passed : map (λ r. r.items) c.pass_lives.new.lists ≡ all_runs_until net before step.second first end = c.in_ok-supply.ensures.runs first before l until is were in
    c.in_ok-record_changed.ensures c.in_ok-supply.supply.live long (rw (c.live.ensures, c.changed.ensures) c.switch.ensures.changed)
    ∙ ap (λ q. push_all 0 q c.live.result.now step.second end (Some step.no) (map (λ r. r.items) c.pass_lives.new.lists)) old.live
    ∙ ap (λ q. push_all 0 (supplied_nodes net (as_of net.devices step.second c.args.entered.now)) q step.second end (Some step.no) (map (λ r. r.items) c.pass_lives.new.lists)) now
    ∙ ap (push_all 0 (supplied_nodes net (as_of net.devices step.second c.args.entered.now)) (supplied_nodes net (as_of net.devices step.second (set c.args.entered.now step.device step.pos))) step.second end (Some step.no)) passed
    ∙ stepped net c.args.entered.now step first end before kept come (omega (arith, l, c.requires.rising)) c.requires.below is

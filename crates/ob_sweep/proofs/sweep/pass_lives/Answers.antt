use Rattle.std.proofs.Common.{◌≤◌, ◌<◌, ◌∙◌, None, IsTrue, length, map, sym, ap, arith}
use Rattle.std.specs.List.{list_any}
use Rattle.ob_base.specs.Life.{turns_at}
use Rattle.ob_net.specs.Network.{Network, as_of}
use Rattle.ob_net.specs.declared.net.Device.{Device}
use Rattle.ob_sweep.specs.Steps.{IsSupplyAt, push_all, supplied_nodes}
use Rattle.ob_sweep.proofs.Passing.{NoneTurns, counts_on, counts_within, kept_until, passed, waited}
use Rattle.ob_sweep.proofs.Sweeps.{length-supplied}
use Rattle.ob_sweep.proofs.sweep.pass_lives.Goals as goal

pub returns-then-to-next-clause-runs : goal.returns-then-to-next-clause-runs
returns-then-to-next-clause-runs c = λ first set l until is were.
    let net : Network = c.args.net.now.network in
    let none : NoneTurns net c.loop-alloc.at c.next_turn-next.result = rw c.loop-alloc.invariant.unchanged at c.next_turn-next.ensures.alike in
    let early = kept_until c.args.from set until in
    c.loop-alloc.invariant.runs first set l early is were
    ∙ sym (waited net c.args.from c.loop-alloc.at c.args.to c.next_turn-next.result first c.args.end set c.loop-alloc.invariant.on c.loop-alloc.invariant.up c.if-to-next.true c.requires.below none l early)

pub returns-then-to-next-clause-searches : goal.returns-then-to-next-clause-searches
returns-then-to-next-clause-searches c =
    counts_within c.args.net.now.network c.args.from c.loop-alloc.at c.args.to _ _ c.loop-alloc.invariant.on c.loop-alloc.invariant.up c.loop-alloc.invariant.counted

pub returns-in_err-after-clause-searches : goal.returns-in_err-after-clause-searches
returns-in_err-after-clause-searches c =
    let net : Network = c.args.net.now.network in
    let next = c.next_turn-next.result in
    let up : next ≤ c.args.to = omega (arith, c.if-to-next.false) in
    let some : IsTrue (list_any (λ (d : Device). turns_at d.life next) net.devices) = rw c.loop-alloc.invariant.unchanged at c.next_turn-next.ensures.turns (omega (arith, up)) in
    let from : c.args.from ≤ next = omega (arith, c.loop-alloc.invariant.on, c.next_turn-next.ensures.later) in
    counts_within net c.args.from next c.args.to _ _ from up
    (counts_on net c.args.from c.loop-alloc.at next c.args.to _ _ _ c.loop-alloc.invariant.on c.next_turn-next.ensures.later up some c.loop-alloc.invariant.counted c.supplied_at.ensures.searches)

pub record_all-requires-clause-before : goal.record_all-requires-clause-before
record_all-requires-clause-before c =
    let net : Network = c.args.net.now.network in
    ap length (c.live.ensures ∙ c.loop-alloc.invariant.was.live) ∙ length-supplied net (as_of net.devices c.loop-alloc.at c.args.entered.now) ∙ sym c.nodes-nodes.ensures.count

pub record_all-requires-clause-after : goal.record_all-requires-clause-after
record_all-requires-clause-after c =
    let now : Network = c.loop-alloc.net.network in
    ap length (c.live-in-loop-alloc.ensures ∙ c.in_ok-after.ensures.supplied.live)
    ∙ length-supplied now (as_of now.devices c.next_turn-next.result c.args.entered.now)
    ∙ ap (λ (n : Network). length n.nodes) c.loop-alloc.invariant.unchanged ∙ sym c.nodes-nodes.ensures.count

pub returns-in_err-record_all-clause-searches : goal.returns-in_err-record_all-clause-searches
returns-in_err-record_all-clause-searches c =
    let net : Network = c.args.net.now.network in
    let next = c.next_turn-next.result in
    let up : next ≤ c.args.to = omega (arith, c.if-to-next.false) in
    let some : IsTrue (list_any (λ (d : Device). turns_at d.life next) net.devices) = rw c.loop-alloc.invariant.unchanged at c.next_turn-next.ensures.turns (omega (arith, up)) in
    let from : c.args.from ≤ next = omega (arith, c.loop-alloc.invariant.on, c.next_turn-next.ensures.later) in
    counts_within net c.args.from next c.args.to _ _ from up
    (counts_on net c.args.from c.loop-alloc.at next c.args.to _ _ _ c.loop-alloc.invariant.on c.next_turn-next.ensures.later up some c.loop-alloc.invariant.counted c.supplied_at.ensures.searches)

pub loop-alloc-preserved : goal.loop-alloc-preserved
loop-alloc-preserved c =
    let net : Network = c.args.net.now.network in
    let next = c.next_turn-next.result in
    let at = c.loop-alloc.at in
    let up : next ≤ c.args.to = omega (arith, c.if-to-next.false) in
    let some : IsTrue (list_any (λ (d : Device). turns_at d.life next) net.devices) = rw c.loop-alloc.invariant.unchanged at c.next_turn-next.ensures.turns (omega (arith, up)) in
    let none : NoneTurns net at next = rw c.loop-alloc.invariant.unchanged at c.next_turn-next.ensures.alike in
    let later : at < next = c.next_turn-next.ensures.later in
    let now : IsSupplyAt net (as_of net.devices next c.args.entered.now) c.in_ok-after.after = rw c.loop-alloc.invariant.unchanged at c.in_ok-after.ensures.supplied in
    record {
      on = omega (arith, c.loop-alloc.invariant.on, later);
      up = up;
      unchanged = c.supplied_at.ensures.network ∙ c.loop-alloc.invariant.unchanged;
      node_room = c.supplied_at.ensures.node_room ∙ c.loop-alloc.invariant.node_room;
      device_room = c.supplied_at.ensures.device_room ∙ c.loop-alloc.invariant.device_room;
      counted = counts_on net c.args.from at next c.args.to _ _ _ c.loop-alloc.invariant.on later up some c.loop-alloc.invariant.counted c.supplied_at.ensures.searches;
      long = c.record_all.auto.lists ∙ c.loop-alloc.invariant.long;
      was = now;
      runs = λ first set l early is were.
          c.in_ok-record_all.ensures
          ∙ ap (λ q. push_all 0 q c.live-in-loop-alloc.result.now next c.args.end None (map (λ r. r.items) c.loop-alloc.lists)) (c.live.ensures ∙ c.loop-alloc.invariant.was.live)
          ∙ ap (λ q. push_all 0 (supplied_nodes net (as_of net.devices at c.args.entered.now)) q next c.args.end None (map (λ r. r.items) c.loop-alloc.lists)) (c.live-in-loop-alloc.ensures ∙ now.live)
          ∙ ap (push_all 0 (supplied_nodes net (as_of net.devices at c.args.entered.now)) (supplied_nodes net (as_of net.devices next c.args.entered.now)) next c.args.end None) (c.loop-alloc.invariant.runs first set l early is were)
          ∙ passed net c.args.entered.now c.args.from at next first c.args.end set c.loop-alloc.invariant.on later (omega (arith, up, c.requires.below)) none l early is;
    }

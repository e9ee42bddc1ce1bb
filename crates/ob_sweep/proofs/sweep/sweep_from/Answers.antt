use Rattle.std.proofs.Common.{◌≡◌, ◌≤◌, ◌<◌, ◌+◌, ◌-◌, ◌++◌, ℕ, List, [], length, map, take, set, sym, ◌∙◌, ap, subst, arith}
use Rattle.std.proofs.lemmas.List.{length-map, length-set, take_all}
use Rattle.ob_base.specs.declared.Pos.{Pos}
use Rattle.ob_net.specs.Network.{Network, as_of}
use Rattle.ob_sheet.specs.declared.Entry.{Entry}
use Rattle.ob_sheet.specs.Positions.{entered}
use Rattle.ob_sweep.specs.Steps.{AreKeptUntil, IsSupplyAt, all_runs, all_runs_until, still_runs, supplied_nodes}
use Rattle.ob_sweep.proofs.Lists.{written_back}
use Rattle.ob_sweep.proofs.Moved.{supply_as}
use Rattle.ob_sweep.proofs.Passing.{before_all, counts_end, counts_rest, counts_step, kept_until, none_after, onwards_more, until_more}
use Rattle.ob_sweep.proofs.Sweeps.{length-supplied, at_step, entered_more}
use Rattle.ob_sweep.proofs.Swept.{length-still_runs, swept_first}
use Rattle.ob_sweep.proofs.Turns.{all_runs_end}
use Rattle.ob_sweep.proofs.sweep.sweep_from.Goals as goal

pub supplied_at-requires : goal.supplied_at-requires
supplied_at-requires c = ap length c.deref.ensures.value ∙ c.requires.entered

pub first_runs-requires : goal.first_runs-requires
first_runs-requires c =
    let net : Network = c.args.net.now.network in
    ap length (c.live.ensures ∙ c.in_ok-supply.ensures.supplied.live) ∙ length-supplied net (as_of net.devices c.args.first c.deref.result.now)
    ∙ ap (λ (n : Network). length n.nodes) (sym c.supplied_at.ensures.network) ∙ sym c.nodes.ensures.count

pub loop-step-init : goal.loop-step-init
loop-step-init c =
    let net : Network = c.args.net.now.network in
    let entered : List Pos = c.args.entered.items in
    let was : IsSupplyAt net (as_of net.devices c.args.first entered) c.in_ok-supply.supply =
    supply_as net (as_of net.devices c.args.first c.deref.result.now) (as_of net.devices c.args.first entered) c.in_ok-supply.supply
    (ap (as_of net.devices c.args.first) c.deref.ensures.value) c.in_ok-supply.ensures.supplied in
    let lists : map (λ r. r.items) c.in_ok-lists.lists.items ≡ still_runs 0 (supplied_nodes net (as_of net.devices c.args.first entered)) c.args.first c.args.end =
    c.in_ok-lists.ensures ∙ ap (λ q. still_runs 0 q c.args.first c.args.end) (c.live.ensures ∙ was.live) in
    record {
      unchanged = c.supplied_at.ensures.network;
      node_room = c.supplied_at.ensures.node_room;
      device_room = c.supplied_at.ensures.device_room;
      counted = omega (arith, c.supplied_at.ensures.searches);
      from = omega arith;
      below = c.requires.some;
      onwards = λ k d some l. (c.requires.between k d l).0;
      positions = c.requires.entered;
      count =
          sym (length-map c.in_ok-lists.lists.items (λ r. r.items)) ∙ ap length lists ∙ length-still_runs 0 (supplied_nodes net (as_of net.devices c.args.first entered)) c.args.first c.args.end
          ∙ length-supplied net (as_of net.devices c.args.first entered);
      was = was;
      done = λ base before. swept_first net base c.args.steps.now c.args.first c.args.end entered (map (λ r. r.items) c.in_ok-lists.lists.items) c.requires.some before lists;
    }

pub take_step-requires-clause-device : goal.take_step-requires-clause-device
take_step-requires-clause-device c =
    let devices : ℕ = length c.args.net.now.network.devices in
    let device : c.step-item.result.device < devices =
    subst (λ (e : Entry). e.device < devices) (sym c.step-item.is) (c.requires.devices c.loop-step.step-index c.step-item.result c.loop-step-test.true) in
    let long : length c.deref_mut.result.now ≡ devices = ap length c.deref_mut.ensures.value ∙ c.loop-step.invariant.positions in
    omega (arith, device, long)

pub take_step-requires-clause-entered : goal.take_step-requires-clause-entered
take_step-requires-clause-entered c =
    ap length c.deref_mut.ensures.value ∙ c.loop-step.invariant.positions ∙ ap (λ (n : Network). length n.devices) (sym c.loop-step.invariant.unchanged)

pub take_step-requires-clause-lists : goal.take_step-requires-clause-lists
take_step-requires-clause-lists c =
    ap length c.deref_mut-in-loop-step.ensures.value ∙ c.loop-step.invariant.count ∙ ap (λ (n : Network). length n.nodes) (sym c.loop-step.invariant.unchanged)

pub take_step-requires-clause-supplied : goal.take_step-requires-clause-supplied
take_step-requires-clause-supplied c =
    let net : Network = c.args.net.now.network in
    rw c.loop-step.invariant.unchanged
    (supply_as net (as_of net.devices c.loop-step.at c.loop-step.entered.items) (as_of net.devices c.loop-step.at c.deref_mut.result.now) c.loop-step.supply
    (ap (as_of net.devices c.loop-step.at) (sym c.deref_mut.ensures.value)) c.loop-step.invariant.was)

pub returns-in_err-supply-2-clause-searches : goal.returns-in_err-supply-2-clause-searches
returns-in_err-supply-2-clause-searches c =
    let net : Network = c.args.net.now.network in
    let i = c.loop-step.step-index in
    let e = c.step-item.result in
    let on : c.loop-step.at ≤ e.second = rw (sym c.step-item.is) at (c.loop-step.invariant.onwards i e (omega arith) c.loop-step-test.true) in
    let within : (c.args.first ≤ e.second) × (e.second < c.args.end) =
    subst (λ (f : Entry). (c.args.first ≤ f.second) × (f.second < c.args.end)) (sym c.step-item.is) (c.requires.between i e c.loop-step-test.true) in
    let more = rw c.loop-step.invariant.unchanged at c.take_step.ensures.searches in
    counts_rest net c.args.first e.second (c.args.end - 1) (i + 1) (length c.args.steps.now) _ _ within.0 (omega (arith, within.1)) (omega (arith, c.loop-step-test.true))
    (counts_step net c.args.first c.loop-step.at e.second i _ _ _ c.loop-step.invariant.from on c.loop-step.invariant.counted more)

pub loop-step-preserved : goal.loop-step-preserved
loop-step-preserved c =
    let net : Network = c.args.net.now.network in
    let i = c.loop-step.step-index in
    let e = c.step-item.result in
    let at = c.loop-step.at in
    let on : at ≤ e.second = rw (sym c.step-item.is) at (c.loop-step.invariant.onwards i e (omega arith) c.loop-step-test.true) in
    let within : (c.args.first ≤ e.second) × (e.second < c.args.end) =
    subst (λ (f : Entry). (c.args.first ≤ f.second) × (f.second < c.args.end)) (sym c.step-item.is) (c.requires.between i e c.loop-step-test.true) in
    let more = rw c.loop-step.invariant.unchanged at c.take_step.ensures.searches in
    let long : length c.take_step.new.entered ≡ length c.loop-step.entered.items =
    ap length c.in_ok-supply-2.ensures.entered ∙ length-set c.deref_mut.result.now e.device e.pos ∙ ap length c.deref_mut.ensures.value in
    let moved = written_back c.take_step.new.entered c.loop-step.entered.items c.loop-step.entered.len (omega arith) long in
    let many : length c.take_step.new.lists ≡ length c.loop-step.lists.items = c.take_step.ensures.count ∙ ap length c.deref_mut-in-loop-step.ensures.value in
    let grown = written_back c.take_step.new.lists c.loop-step.lists.items c.loop-step.lists.len (omega arith) many in
    let runs = c.in_ok-supply-2.ensures.runs in
    record {
      unchanged = c.take_step.ensures.network ∙ c.loop-step.invariant.unchanged;
      node_room = c.take_step.ensures.node_room ∙ c.loop-step.invariant.node_room;
      device_room = c.take_step.ensures.device_room ∙ c.loop-step.invariant.device_room;
      counted = counts_step net c.args.first at e.second i _ _ _ c.loop-step.invariant.from on c.loop-step.invariant.counted more;
      from = within.0;
      below = within.1;
      onwards = onwards_more [] c.args.steps.now i e c.loop-step-test.true c.step-item.is c.requires.ordered;
      positions = ap length moved ∙ long ∙ c.loop-step.invariant.positions;
      count = ap length grown ∙ many ∙ c.loop-step.invariant.count;
      was =
          supply_as net (as_of net.devices e.second (set c.deref_mut.result.now e.device e.pos)) (as_of net.devices e.second _) c.in_ok-supply-2.supply
          (ap (as_of net.devices e.second) (sym c.in_ok-supply-2.ensures.entered ∙ sym moved)) (rw c.loop-step.invariant.unchanged at c.in_ok-supply-2.ensures.supplied);
      done = λ base before.
          let h = c.loop-step.invariant.done base before in
          let done : List Entry = base ++ take i c.args.steps.now in
          let x = at_step (length net.devices) c.args.first c.args.end base c.args.steps.now i e c.loop-step-test.true c.step-item.is before.kept before.ordered c.requires.between c.requires.devices in
          let given : c.deref_mut.result.now ≡ entered net done = c.deref_mut.ensures.value ∙ h.given in
          record {
            until = subst (AreKeptUntil e.second) (sym x.done) (until_more at e.second done e on x.kept (omega arith) h.until);
            given = moved ∙ c.in_ok-supply-2.ensures.entered ∙ ap (λ q. set q e.device e.pos) given ∙ sym (entered_more done e x.after net) ∙ ap (entered net) (sym x.done);
            kept =
                ap (map (λ r. r.items)) grown
                ∙ rw c.loop-step.invariant.unchanged at (runs c.args.first done c.loop-step.invariant.from x.kept h.until (before_all e done x.after)
                (given ∙ ap (λ n. entered n done) (sym c.loop-step.invariant.unchanged))
                (ap (map (λ r. r.items)) c.deref_mut-in-loop-step.ensures.value ∙ h.kept ∙ ap (λ n. all_runs_until n done at c.args.first c.args.end) (sym c.loop-step.invariant.unchanged)))
                ∙ ap (λ q. all_runs_until net q e.second c.args.first c.args.end) (sym x.done);
          };
    }

pub pass_lives-requires-clause-entered : goal.pass_lives-requires-clause-entered
pass_lives-requires-clause-entered c =
    ap length c.deref-2.ensures.value ∙ c.loop-step.invariant.positions ∙ ap (λ (n : Network). length n.devices) (sym c.loop-step.invariant.unchanged)

pub pass_lives-requires-clause-lists : goal.pass_lives-requires-clause-lists
pass_lives-requires-clause-lists c =
    ap length c.deref_mut-2.ensures.value ∙ c.loop-step.invariant.count ∙ ap (λ (n : Network). length n.nodes) (sym c.loop-step.invariant.unchanged)

pub pass_lives-requires-clause-supplied : goal.pass_lives-requires-clause-supplied
pass_lives-requires-clause-supplied c =
    let net : Network = c.args.net.now.network in
    rw c.loop-step.invariant.unchanged
    (supply_as net (as_of net.devices c.loop-step.at c.loop-step.entered.items) (as_of net.devices c.loop-step.at c.deref-2.result.now) c.loop-step.supply
    (ap (as_of net.devices c.loop-step.at) (sym c.deref-2.ensures.value)) c.loop-step.invariant.was)

pub returns-in_err-pass_lives-clause-searches : goal.returns-in_err-pass_lives-clause-searches
returns-in_err-pass_lives-clause-searches c =
    let more = rw c.loop-step.invariant.unchanged at c.pass_lives.ensures.searches in
    counts_end c.args.net.now.network c.args.first c.loop-step.at (c.args.end - 1) c.loop-step.step-index (length c.args.steps.now) _ _ _ c.loop-step.invariant.from (omega (arith, c.loop-step.invariant.below))
    (omega (arith, c.loop-step.auto.step-index-end)) c.loop-step.invariant.counted more

pub returns-clause-searches : goal.returns-clause-searches
returns-clause-searches c =
    let more = rw c.loop-step.invariant.unchanged at c.pass_lives.ensures.searches in
    counts_end c.args.net.now.network c.args.first c.loop-step.at (c.args.end - 1) c.loop-step.step-index (length c.args.steps.now) _ _ _ c.loop-step.invariant.from (omega (arith, c.loop-step.invariant.below))
    (omega (arith, c.loop-step.auto.step-index-end)) c.loop-step.invariant.counted more

pub returns-clause-runs : goal.returns-clause-runs
returns-clause-runs c = λ base before.
    let net : Network = c.args.net.now.network in
    let i = c.loop-step.step-index in
    let at = c.loop-step.at in
    let last = c.args.end - 1 in
    let h = c.loop-step.invariant.done base before in
    let done : List Entry = base ++ take i c.args.steps.now in
    let all : done ≡ base ++ c.args.steps.now = ap (λ q. base ++ q) (take_all i c.args.steps.now c.loop-step-test.false) in
    let until : AreKeptUntil last done = λ k d l. let e = h.until k d l in (e.0, omega (arith, e.1, c.loop-step.invariant.below)) in
    ap (map (λ r. r.items)) (written_back c.pass_lives.new.lists c.loop-step.lists.items c.loop-step.lists.len (omega arith) (c.pass_lives.ensures.count ∙ ap length c.deref_mut-2.ensures.value))
    ∙ rw c.loop-step.invariant.unchanged at (c.in_ok-pass_lives.ensures.runs c.args.first done c.loop-step.invariant.from h.until
    (c.deref-2.ensures.value ∙ h.given ∙ ap (λ n. entered n done) (sym c.loop-step.invariant.unchanged))
    (ap (map (λ r. r.items)) c.deref_mut-2.ensures.value ∙ h.kept ∙ ap (λ n. all_runs_until n done at c.args.first c.args.end) (sym c.loop-step.invariant.unchanged)))
    ∙ sym (all_runs_end net c.args.first c.args.end done last (kept_until last done until) (none_after net c.args.end) (omega (arith, c.loop-step.invariant.from, c.loop-step.invariant.below)) (omega (arith, c.requires.some)))
    ∙ ap (λ q. all_runs net q c.args.first c.args.end) all

use Rattle.std.proofs.Common.{◌≡◌, ◌∙◌, sym, ap, subst, ◌+◌, [], ◌∷◌, refl, length-append, arith}
use Rattle.ob_net.specs.Network.{with_node}
use Rattle.ob_sweep.specs.Changed.{changed, Applies, IsAfter}
use Rattle.ob_sweep.specs.Deltas.{IsDelta}
use Rattle.ob_sweep.specs.declared.change.Change.{Change}
use Rattle.ob_state.specs.State.{BookState}
use Rattle.ob_state.specs.States.{AreRunsOf, IsSoundState}
use Rattle.ob_state.specs.Effects.{before_change, with_network, without_node}
use Rattle.ob_state.specs.Resolved.{node_change}
use Rattle.ob_state.specs.Retimings.{runs_in}
use Rattle.ob_state.proofs.Deltas.{delta_of_same}
use Rattle.ob_state.proofs.Leading.{effect_next, nothing_moved}
use Rattle.ob_state.proofs.NetworkChanges.{has_place, node_after, node_back, node_before, node_sheet, same_amount, same_lists}
use Rattle.ob_state.proofs.parts.with_node.Goals as goal

pub plan_change-delta-requires-clause-part : goal.plan_change-delta-requires-clause-part
plan_change-delta-requires-clause-part g c =
    let entries = c.add_node.new.self.state.entries in
    subst (λ (ch : Change). changed ch entries ≡ entries) (sym c.change_of_node-change.ensures) (node_sheet c.args.node.feeder entries).0

pub plan_change-delta-requires-clause-applies : goal.plan_change-delta-requires-clause-applies
plan_change-delta-requires-clause-applies g c =
    let entries = c.add_node.new.self.state.entries in
    subst (λ (ch : Change). Applies ch entries) (sym c.change_of_node-change.ensures) (node_sheet c.args.node.feeder entries).1

pub plan_change-delta-requires-clause-after : goal.plan_change-delta-requires-clause-after
plan_change-delta-requires-clause-after g c =
    let b = c.args.state.now.state in
    let node = c.args.node in
    let added = c.add_node.ensures.state ∙ ap (λ (s : BookState). with_network s (with_node s.network node)) c.in_ok-reserve_one.ensures.state in
    let sound = subst IsSoundState c.in_ok-reserve_one.ensures.state c.accepted.ensures.sound in
    subst (λ (ch : Change). IsAfter ch c.add_node.new.self.state.network) (sym c.change_of_node-change.ensures)
    (subst (λ (s : BookState). IsAfter (node_change node.feeder) s.network) (sym added) (node_after b.network node node.feeder refl sound.network.joins))

pub plan_change-delta-requires-clause-runs : goal.plan_change-delta-requires-clause-runs
plan_change-delta-requires-clause-runs g c =
    let b = c.args.state.now.state in
    let node = c.args.node in
    let s = c.add_node.new.self.state in
    let lists = g.T.Timeline.content c.args.timeline.now in
    let added : s ≡ with_network b (with_node b.network node) = c.add_node.ensures.state ∙ ap (λ (t : BookState). with_network t (with_node t.network node)) c.in_ok-reserve_one.ensures.state in
    let back : before_change c.change_of_node-change.result s ≡ b =
    ap (λ (ch : Change). before_change ch s) c.change_of_node-change.ensures ∙ node_before node.feeder s ∙ ap without_node added ∙ node_back b node in
    subst (λ (t : BookState). AreRunsOf t lists) (sym back) c.requires.runs

pub returns-clause-effect : goal.returns-clause-effect
returns-clause-effect g c =
    let b = c.args.state.now.state in
    let node = c.args.node in
    let d : BookState = with_network b (with_node b.network node) in
    let delta = c.in_ok-delta.field-0 in
    let lists = g.T.Timeline.content c.args.timeline.now in
    let added : c.add_node.new.self.state ≡ d = c.add_node.ensures.state ∙ ap (λ (s : BookState). with_network s (with_node s.network node)) c.in_ok-reserve_one.ensures.state in
    let is : IsDelta d.network delta lists (runs_in d) = subst (λ (s : BookState). IsDelta s.network delta lists (runs_in s)) added c.in_ok-delta.ensures.delta in
    let sound = subst IsSoundState c.in_ok-reserve_one.ensures.state c.accepted.ensures.sound in
    let place = has_place b.network node.name sound.network c.requires.free in
    let grown = length-append b.network.nodes (node ∷ []) in
    effect_next b d (b.accepted + 1) _
    (record {
      moved = nothing_moved b d c.new.result.items (same_amount b node sound.state.sections) c.new.ensures.items;
      retiming = λ other are.
          let given = delta_of_same d.network lists other delta (runs_in d) (c.requires.runs.places ∙ sym are.places) (same_lists b node lists other c.requires.runs are) c.in_ok-delta.ensures.fits is in
          (omega (arith, grown), omega (arith, grown, place, are.places), given.0, given.1);
    })

use Rattle.std.proofs.Common.{◌≡◌, ◌∙◌, ap, sym, subst, ◌+◌, ◌-◌, ◌<◌, length}
use Rattle.std.specs.List.{All}
use Rattle.std.specs.Result.{IfOk}
use Rattle.std.proofs.lemmas.Result.{IfOk-weaker}
use Rattle.ob_net.specs.Network.{with_joined}
use Rattle.ob_sheet.specs.declared.Entry.{Entry}
use Rattle.ob_sweep.specs.Changed.{IsAfter}
use Rattle.ob_sweep.specs.declared.change.Change.TheVariants.{Joined}
use Rattle.ob_state.specs.State.{BookState}
use Rattle.ob_state.specs.States.{AreRunsOf, IsSoundState}
use Rattle.ob_state.specs.Effects.{IsEffect, with_network, without_device}
use Rattle.ob_state.proofs.Leading.{effect_next}
use Rattle.ob_state.proofs.NetworkChanges.{before_last, joined_after, taken_back}
use Rattle.ob_state.proofs.parts.with_device.Goals as goal

pub effect_on_network-effect-requires-clause-runs : goal.effect_on_network-effect-requires-clause-runs
effect_on_network-effect-requires-clause-runs g c =
    let b = c.args.state.now.state in
    let new = c.args.device in
    let lists = g.T.Timeline.content c.args.timeline.now in
    let added = c.join.ensures.state ∙ ap (λ (s : BookState). with_network s (with_joined s.network new)) c.in_ok-reserve_one.ensures.state in
    subst (λ (s : BookState). AreRunsOf (without_device s) lists) (sym added) (subst (λ (s : BookState). AreRunsOf s lists) (sym (taken_back b new)) c.requires.runs)

pub effect_on_network-effect-requires-clause-after : goal.effect_on_network-effect-requires-clause-after
effect_on_network-effect-requires-clause-after g c =
    let new = c.args.device in
    let added = c.join.ensures.state ∙ ap (λ (s : BookState). with_network s (with_joined s.network new)) c.in_ok-reserve_one.ensures.state in
    subst (λ (s : BookState). IsAfter (Joined c.args.number new.life) s.network) (sym added) (joined_after c.args.state.now.state.network new c.args.number c.requires.takes.number)

pub take_back_device-requires-clause-entries : goal.take_back_device-requires-clause-entries
take_back_device-requires-clause-entries g c =
    let new = c.args.device in
    let added = c.join.ensures.state ∙ ap (λ (s : BookState). with_network s (with_joined s.network new)) c.in_ok-reserve_one.ensures.state in
    let sound = subst IsSoundState c.in_ok-reserve_one.ensures.state c.accepted.ensures.sound in
    subst (λ (s : BookState). All (λ (e : Entry). e.device < length s.network.devices - 1) s.entries) (sym (c.effect_on_network-effect.ensures.state ∙ added))
    (before_last c.args.state.now.state new sound.state.devices)

pub returns-clause-effect : goal.returns-clause-effect
returns-clause-effect g c =
    let b = c.args.state.now.state in
    let new = c.args.device in
    let result = c.effect_on_network-effect.result in
    let d : BookState = with_network b (with_joined b.network new) in
    let added : c.join.new.self.state ≡ d = c.join.ensures.state ∙ ap (λ (s : BookState). with_network s (with_joined s.network new)) c.in_ok-reserve_one.ensures.state in
    let here = subst (λ (s : BookState). IfOk result (IsEffect (without_device s) s)) added c.effect_on_network-effect.ensures.effect in
    let from = subst (λ (s : BookState). IfOk result (IsEffect s d)) (taken_back b new) here in
    IfOk-weaker result _ _ (λ e h. effect_next b d (b.accepted + 1) e h) from

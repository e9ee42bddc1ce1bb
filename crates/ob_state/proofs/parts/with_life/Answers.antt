use Rattle.std.proofs.Common.{◌≡◌, ◌∙◌, ap, sym, subst, ◌+◌, ◌<◌, ◌≤◌, length, Some, arith}
use Rattle.std.specs.Result.{IfOk}
use Rattle.std.proofs.lemmas.Result.{IfOk-weaker}
use Rattle.ob_net.specs.Network.{with_life}
use Rattle.ob_sweep.specs.declared.change.Change.TheVariants.{Lived}
use Rattle.ob_state.specs.Searches.{life_at}
use Rattle.ob_state.specs.State.{BookState}
use Rattle.ob_state.specs.States.{AreRunsOf}
use Rattle.ob_state.specs.Effects.{IsEffect, before_change, with_network}
use Rattle.ob_state.proofs.Leading.{effect_next}
use Rattle.ob_state.proofs.Kept.{count_lived}
use Rattle.ob_state.proofs.NetworkChanges.{lived_back, lived_now, old_life}
use Rattle.ob_state.proofs.parts.with_life.Goals as goal

pub effect_on_network-effect-requires-clause-runs : goal.effect_on_network-effect-requires-clause-runs
effect_on_network-effect-requires-clause-runs g c =
    let b = c.args.state.now.state in
    let lists = g.T.Timeline.content c.args.timeline.now in
    subst (λ (s : BookState). AreRunsOf (before_change (Lived c.args.device c.args.old c.args.new) s) lists) (sym c.set_life.ensures.state)
    (subst (λ (s : BookState). AreRunsOf s lists) (sym (lived_back b c.args.device c.args.old c.args.new c.requires.takes.old)) c.requires.runs)

pub effect_on_network-effect-requires-clause-after : goal.effect_on_network-effect-requires-clause-after
effect_on_network-effect-requires-clause-after g c =
    subst (λ (s : BookState). life_at s.network c.args.device ≡ Some c.args.new) (sym c.set_life.ensures.state)
    (lived_now c.args.state.now.state.network.devices c.args.device c.args.new c.requires.takes.device)

pub set_life-requires-2-clause-device : goal.set_life-requires-2-clause-device
set_life-requires-2-clause-device g c =
    let within = c.requires.takes.device in
    let count = count_lived c.args.state.now.state.network.devices c.args.device c.args.new in
    subst (λ (s : BookState). c.args.device < length s.network.devices) (sym (c.effect_on_network-effect.ensures.state ∙ c.set_life.ensures.state)) (omega (arith, within, count))

pub set_life-requires-2-clause-life : goal.set_life-requires-2-clause-life
set_life-requires-2-clause-life g c = old_life c.args.state.now.state.network.devices c.args.device c.args.old c.accepted.ensures.sound.network.lives c.requires.takes.old

pub returns-clause-state : goal.returns-clause-state
returns-clause-state g c =
    let b = c.args.state.now.state in
    c.set_life-2.ensures.state ∙ ap (λ (s : BookState). with_network s (with_life s.network c.args.device c.args.old)) (c.effect_on_network-effect.ensures.state ∙ c.set_life.ensures.state)
    ∙ lived_back b c.args.device c.args.old c.args.new c.requires.takes.old

pub returns-clause-effect : goal.returns-clause-effect
returns-clause-effect g c =
    let b = c.args.state.now.state in
    let old = c.args.old in
    let new = c.args.new in
    let k = c.args.device in
    let result = c.effect_on_network-effect.result in
    let d : BookState = with_network b (with_life b.network k new) in
    let here = subst (λ (s : BookState). IfOk result (IsEffect (before_change (Lived k old new) s) s)) c.set_life.ensures.state c.effect_on_network-effect.ensures.effect in
    let from = subst (λ (s : BookState). IfOk result (IsEffect s d)) (lived_back b k old new c.requires.takes.old) here in
    IfOk-weaker result _ _ (λ e h. effect_next b d (b.accepted + 1) e h) from

pub returns-clause-searches : goal.returns-clause-searches
returns-clause-searches g c =
    let change = Lived c.args.device c.args.old c.args.new in
    let made = subst (λ (s : BookState). c.effect_on_network-effect.new.state.searches ≤ c.set_life.new.self.searches + g.T.Timeline.bound s.network s.entries s.period change) c.set_life.ensures.state c.effect_on_network-effect.ensures.searches in
    omega (arith, made, c.set_life.ensures.searches, c.set_life-2.ensures.searches)

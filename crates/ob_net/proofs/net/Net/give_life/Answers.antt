use Rattle.std.proofs.lemmas.Bool.{cases_Bool, false≢true}
use Rattle.std.proofs.Common.{◌≡◌, ◌<◌, List, None, true, inl, inr, length, ap, refl, sym, ◌∙◌}
use Rattle.std.proofs.Math.ListN.{set}
use Rattle.ob_base.specs.Life.{ends_later, life_refusal}
use Rattle.ob_base.specs.declared.life.Life.{Life}
use Rattle.ob_net.specs.declared.net.Device.{Device}
use Rattle.ob_net.specs.Network.{AreWhole}
use Rattle.ob_net.proofs.Lives.{set_is_with_life, whole_with, with_life_is}
use Rattle.ob_net.proofs.net.Net.give_life.Goals.{then-self, else-self}
use Rattle.ob_net.proofs.net.Net.give_life.Goals as goal

-- a life that isn't refused
later : (life : Life) → life_refusal life ≡ None → ends_later life ≡ true
later life h = elim (cases_Bool (ends_later life)) [
  | inl t ↦ t
  | inr f ↦ let refused = rw f at h in absurd cc
]

pub invariant_of-self : goal.invariant_of-self
invariant_of-self c =
    let old : List Device = c.self.inside.devices.items in
    let within : c.args.device < length old = rw (← c.self.view_is) at c.requires.device in
    let is = ap (λ (x : Device). set old c.args.device (record x { life = c.args.life })) c.index_mut.ensures.value ∙ set_is_with_life old c.args.device c.args.life c.index_mut.result.now within in (
      rw is (with_life_is (record { nodes = c.self.inside.nodes.items; devices = old }) c.self.inside.node_names.items c.self.inside.device_names.items c.args.device c.args.life c.self.invariant.0
          (later c.args.life c.requires.life)),
      λ t. elim c.if-self.branch as (λ _. AreWhole (set old c.args.device (record c.index_mut.result.now { life = c.args.life }))) [
        | then-self w ↦ rw is (whole_with old c.args.device c.args.life (w.is_whole-self-inside.ensures.0 (sym w.self-is ∙ t)) (c.self.invariant.1 w.if-self.true))
        | else-self w ↦ absurd (false≢true (sym w.if-self.false ∙ sym w.self-is ∙ t))
      ],
    )

pub returns-clause-network : goal.returns-clause-network
returns-clause-network c =
    let old : List Device = c.self.inside.devices.items in
    let within : c.args.device < length old = rw (← c.self.view_is) at c.requires.device in
    let is = ap (λ (x : Device). set old c.args.device (record x { life = c.args.life })) c.index_mut.ensures.value ∙ set_is_with_life old c.args.device c.args.life c.index_mut.result.now within in
    rw (is, ← c.self.view_is) refl

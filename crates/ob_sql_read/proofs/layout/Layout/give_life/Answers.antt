use Rattle.std.proofs.Common.{◌≡◌, ◌<◌, List, get_or, length, refl, ap, ◌∙◌, arith}
use Rattle.std.proofs.Math.ListN.{set}
use Rattle.std.proofs.lemmas.Bool.{false≢true}
use Rattle.ob_net.specs.Network.{with_life_at}
use Rattle.ob_net.specs.declared.net.Device.{Device}
use Rattle.ob_net.proofs.Lives.{set_is_with_life}
use Rattle.ob_sql_read.proofs.Lives.{none_beyond}
use Rattle.ob_sql_read.proofs.layout.Layout.give_life.Goals.{in-Some, in_default}
use Rattle.ob_sql_read.proofs.layout.Layout.give_life.Goals as goal

pub returns : goal.returns
returns c =
    let old : List Device = c.self.inside.devices.items in
    let count = c.self.inside.devices.ok.0 in
    elim c.match-get_mut.branch [
      | in-Some w ↦
          let device = w.in-Some.device.now in
          let low = w.in-Some.ensures.variant.0 refl in
          let there : device ≡ get_or old c.args.number device = rw c.from.ensures at w.in-Some.ensures.value in
          let is : set old c.args.number (record device { life = c.args.life }) ≡ with_life_at old c.args.number c.args.life =
          ap (λ (x : Device). set old c.args.number (record x { life = c.args.life })) there
          ∙ set_is_with_life old c.args.number c.args.life device (omega (arith, low, c.from.ensures, count)) in
          record { network = rw (w.self-inside-is, c.from.ensures, is, ← c.self.view_is) refl }
      | in_default w ↦
          let beyond : c.args.number < length old → ⊥ = λ low. false≢true (w.in_default.ensures.variant.1 (omega (arith, low, c.from.ensures, count))) in
          record { network = rw (w.self-inside-is, ← c.self.view_is, none_beyond old c.args.number c.args.life beyond) refl }
    ]

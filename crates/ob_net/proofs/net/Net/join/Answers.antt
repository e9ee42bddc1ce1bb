use Rattle.std.proofs.lemmas.Bool.{false≢true}
use Rattle.std.proofs.Common.{◌≡◌, [], ◌∷◌, ◌++◌, length, sym, ◌∙◌}
use Rattle.ob_net.specs.Network.{AreWhole, CanJoin}
use Rattle.ob_net.proofs.Added.{with_joined_is}
use Rattle.ob_net.proofs.Listed.{one_named_more}
use Rattle.ob_net.proofs.Lives.{whole_more}
use Rattle.ob_net.proofs.net.Net.join.Goals.{then-self, else-self}
use Rattle.ob_net.proofs.net.Net.join.Goals as goal

pub put_in-requires-clause-new : goal.put_in-requires-clause-new
put_in-requires-clause-new c =
    let can : CanJoin (record { nodes = c.self.inside.nodes.items; devices = c.self.inside.devices.items }) c.args.device = rw (← c.self.view_is) at c.requires.new in
    c.self.invariant.0.devices.numbers c.args.device.name ∙ can.free

pub invariant_of-self : goal.invariant_of-self
invariant_of-self c =
    let can : CanJoin (record { nodes = c.self.inside.nodes.items; devices = c.self.inside.devices.items }) c.args.device = rw (← c.self.view_is) at c.requires.new in
    let long : c.push_reserved.new.self.items ≡ c.self.inside.devices.items ++ c.args.device ∷ [] = c.push_reserved.ensures.items in
    let number : c.len-number.result ≡ length c.self.inside.devices.items = c.len-number.ensures ∙ c.self.inside.devices.ok.0 in (
      record {
        network = with_joined_is _ c.push_reserved.new.self.items c.args.device c.self.invariant.0.network can long;
        nodes = c.self.invariant.0.nodes;
        devices = rw long (one_named_more (λ d. d.name) c.self.inside.devices.items c.args.device c.self.inside.device_names.items c.put_in.new.names.items c.self.invariant.0.devices
            (c.self.invariant.0.devices.numbers c.args.device.name ∙ can.free) c.put_in.ensures.rising (rw number at c.put_in.ensures.numbers));
      },
      λ t.
          elim c.if-self.branch as (λ _. AreWhole c.push_reserved.new.self.items) [
            | then-self w ↦ rw long (whole_more c.self.inside.devices.items c.args.device (w.is_whole-self-inside.ensures.0 (sym w.self-is ∙ t)) (c.self.invariant.1 w.if-self.true))
            | else-self w ↦ absurd (false≢true (sym w.if-self.false ∙ sym w.self-is ∙ t))
          ],
    )

use Rattle.std.proofs.Common.{◌≡◌, ◌<◌, ◌++◌, ◌∷◌, ◌+◌, ℕ, List, [], take, refl, sym, ap, ◌∙◌, arith, subst}
use Rattle.std.proofs.lemmas.List.{take_more}
use Rattle.std.specs.List.{All}
use Rattle.ob_net.specs.Network.{Network}
use Rattle.ob_sheet.specs.declared.Entry.{Entry}
use Rattle.ob_sweep.specs.Acting.{moved}
use Rattle.ob_sweep.specs.CutOffs.{AreCollected, IsCut}
use Rattle.ob_sweep.specs.declared.cut_off.CutOff.{CutOff}
use Rattle.ob_sweep.proofs.Collecting.{collected_first, collected_more}
use Rattle.ob_sweep.proofs.cut_off.CutOff.take_all.Goals as goal

pub loop-entry-init : goal.loop-entry-init
loop-entry-init c =
    let self : CutOff = c.args.self.now in
    let listed : c.extend_from_slice.new.self.items ≡ c.nodes.result.now =
    c.in_ok-extend_from_slice.ensures.items ∙ ap (λ (q : List ℕ). q ++ c.nodes.result.now) c.new-nodes.ensures.items in
    record {
      collected = collected_first c.args.net.now.network self c.extend_from_slice.new.self.items c.requires.of (listed ∙ c.nodes.ensures.nodes)
          (subst (λ (ns : List ℕ). All (λ v. v < self.tracer.nodes) ns) (sym listed) c.nodes.ensures.below);
      network = refl;
      node_room = refl;
      device_room = refl;
      searches = omega arith;
    }

pub loop-entry-preserved : goal.loop-entry-preserved
loop-entry-preserved c =
    let net : Network = c.args.net.now.network in
    let was : CutOff = c.args.self.now in
    let now : CutOff = c.loop-entry.self in
    let next : CutOff = c.take.new.self in
    let h = c.loop-entry.invariant in
    let i = c.loop-entry.entry-index in
    let entries : List Entry = c.args.entries.now in
    let x : Entry = c.entry-item.result in
    let more : List ℕ = c.nodes-in-loop-entry.result.now in
    let of : IsCut net next = subst (λ (n : Network). IsCut n next) h.network c.take.ensures.of in
    let positions : next.positions.items ≡ moved net now.second now.positions.items x =
    c.take.ensures.positions ∙ ap (λ (n : Network). moved n now.second now.positions.items x) h.network in
    let taken : take i entries ++ x ∷ [] ≡ take (i + 1) entries =
    ap (λ (y : Entry). take i entries ++ y ∷ []) c.entry-item.is ∙ sym (take_more entries i x c.loop-entry-test.true) in
    record {
      collected =
          subst (λ (es : List Entry). AreCollected net was es c.extend_from_slice-in-loop-entry.new.self.items next) taken
          (subst (λ (ns : List ℕ). AreCollected net was (take i entries ++ x ∷ []) ns next) (sym c.in_ok-extend_from_slice-2.ensures.items)
          (collected_more net was now next (take i entries) x c.loop-entry.nodes.items more h.collected of c.take.ensures.device c.take.ensures.second positions
          c.nodes-in-loop-entry.ensures.nodes c.nodes-in-loop-entry.ensures.below));
      network = c.take.ensures.network ∙ h.network;
      node_room = c.take.ensures.node_room ∙ h.node_room;
      device_room = c.take.ensures.device_room ∙ h.device_room;
      searches = omega (arith, c.take.ensures.searches, h.searches);
    }

-- The nodes that are supplied through a device alone, collected while entries act one after another.
use Rattle.std.proofs.Common.{◌≡◌, ◌||◌, ◌==◌, ◌<◌, ℕ, Bool, true, false, List, [], ◌∷◌, ◌++◌, refl, sym, ◌∙◌, ap, subst, arith, length}
use Rattle.std.specs.List.{All}
use Rattle.std.proofs.lemmas.Bool.{false≢true}
use Rattle.std.proofs.lemmas.List.Elements.{All-append}
use Rattle.std.proofs.lemmas.List.Folds.{list_any-append}
use Rattle.ob_base.specs.declared.Pos.{Pos}
use Rattle.ob_net.specs.Network.{Network}
use Rattle.ob_net.specs.Nodes.{is_among}
use Rattle.ob_net.specs.Walk.{is_supplied}
use Rattle.ob_sheet.specs.declared.Entry.{Entry}
use Rattle.ob_sweep.specs.Acting.{moved, moved_all, steps_from}
use Rattle.ob_sweep.specs.CutOffs.{AreCollected, IsCut, nodes_through}
use Rattle.ob_sweep.specs.Differences.{AtEach, IsIndifferent, Supplies}
use Rattle.ob_sweep.specs.declared.cut_off.CutOff.{CutOff}
use Rattle.ob_sweep.proofs.Altering.{through_found}

pub moved_more : (net : Network) (t : ℕ) (ps : List Pos) (es : List Entry) (e : Entry) → moved_all net t ps (es ++ e ∷ []) ≡ moved net t (moved_all net t ps es) e
moved_more net t ps [] e = refl
moved_more net t ps (x ∷ es) e = moved_more net t (moved net t ps x) es e

pub each_more : (P : List Pos → Type 0) (net : Network) (t : ℕ) (ps : List Pos) (es : List Entry) (e : Entry) → AtEach P ps (steps_from net t ps es)
    → P (moved net t (moved_all net t ps es) e) → AtEach P ps (steps_from net t ps (es ++ e ∷ []))
each_more P net t ps [] e h last = (h, last)
each_more P net t ps (x ∷ es) e h last = (h.0, each_more P net t (moved net t ps x) es e h.1 last)

apart_both : (b c : Bool) → (b || c) ≡ false → (b ≡ false) × (c ≡ false)
apart_both true c h = absurd (false≢true (sym h))
apart_both false c h = (refl, h)

pub apart_from : (xs ys : List ℕ) (v : ℕ) → is_among (xs ++ ys) v ≡ false → (is_among xs v ≡ false) × (is_among ys v ≡ false)
apart_from xs ys v h = apart_both (is_among xs v) (is_among ys v) (sym (list_any-append (λ w. w == v) xs ys) ∙ h)

indifferent_now : (net : Network) (c : CutOff) (v : ℕ) → IsCut net c → is_among (nodes_through c.cut c.tracer.found) v ≡ false → IsIndifferent (λ w ps. is_supplied net ps w) c.device v c.positions.items
indifferent_now net c v of none =
    (through_found net c.positions.items c.device c.cut c.tracer.found (omega (arith, of.device, of.positions)) of.found).outside v none

below_now : (net : Network) (c : CutOff) (nodes : List ℕ) → IsCut net c → All (λ v. v < c.tracer.nodes) nodes → All (λ v. v < length net.nodes) nodes
below_now net c nodes of h = subst (λ (n : ℕ). All (λ v. v < n) nodes) of.of.nodes h

-- before the first entry
pub collected_first : (net : Network) (c : CutOff) (nodes : List ℕ) → IsCut net c → nodes ≡ nodes_through c.cut c.tracer.found → All (λ v. v < c.tracer.nodes) nodes
    → AreCollected net c [] nodes c
collected_first net c nodes of is below =
    let apart : (v : ℕ) → is_among nodes v ≡ false → is_among (nodes_through c.cut c.tracer.found) v ≡ false = λ v none. ap (λ (ns : List ℕ). is_among ns v) (sym is) ∙ none in
    record {
      of = of;
      device = refl;
      second = refl;
      positions = refl;
      below = below_now net c nodes of below;
      same = λ v none. indifferent_now net c v of (apart v none);
      first = apart;
      last = apart;
    }

-- and after one more
pub collected_more : (net : Network) (was now next : CutOff) (es : List Entry) (e : Entry) (nodes more : List ℕ) → AreCollected net was es nodes now
    → IsCut net next → next.device ≡ now.device → next.second ≡ now.second → next.positions.items ≡ moved net now.second now.positions.items e
    → more ≡ nodes_through next.cut next.tracer.found → All (λ v. v < next.tracer.nodes) more → AreCollected net was (es ++ e ∷ []) (nodes ++ more) next
collected_more net was now next es e nodes more h of device second positions is below =
    let lit : Supplies = λ w ps. is_supplied net ps w in
    let there : next.positions.items ≡ moved net was.second (moved_all net was.second was.positions.items es) e =
    positions ∙ ap (λ (t : ℕ). moved net t now.positions.items e) h.second ∙ ap (λ (ps : List Pos). moved net was.second ps e) h.positions in
    let apart : (v : ℕ) → is_among more v ≡ false → is_among (nodes_through next.cut next.tracer.found) v ≡ false = λ v none. ap (λ (ns : List ℕ). is_among ns v) (sym is) ∙ none in
    record {
      of = of;
      device = device ∙ h.device;
      second = second ∙ h.second;
      positions = there ∙ sym (moved_more net was.second was.positions.items es e);
      below = All-append (λ v. v < length net.nodes) nodes more h.below (below_now net next more of below);
      same = λ v none.
          let both = apart_from nodes more v none in
          each_more (IsIndifferent lit was.device v) net was.second was.positions.items es e (h.same v both.0)
          (subst (λ (ps : List Pos). IsIndifferent lit was.device v ps) there
          (subst (λ (d : ℕ). IsIndifferent lit d v next.positions.items) (device ∙ h.device) (indifferent_now net next v of (apart v both.1))));
      first = λ v none. h.first v (apart_from nodes more v none).0;
      last = λ v none. apart v (apart_from nodes more v none).1;
    }

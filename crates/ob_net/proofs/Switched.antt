-- What closing or opening one device does to the nodes that are connected to GRID.
use Rattle.std.proofs.Common.{◌≡◌, ◌≢◌, ℕ, ◌<◌, ◌≤◌, ◌∷◌, zero, suc, arith, [], Bool, true, false, not, cond, List, refl, sym, ap, subst, ◌∙◌, inl, inr, length, get_or, set, get_or-set_other, true≢false}
use Rattle.std.proofs.lemmas.Bool.{cases_Bool, cases_eq, cond-true, cond-false}
use Rattle.std.proofs.lemmas.Grind.{get_or-set_at}
use Rattle.ob_base.specs.declared.Pos.{Pos}
use Rattle.ob_base.specs.declared.Pos.TheVariants.{Opened, Closed}
use Rattle.std.specs.List.{All, AllPairs}
use Rattle.ob_net.specs.Joints.{AreSame, IsAlikeOver, IsClosedAt, IsComponent, IsExplored, ends_at}
use Rattle.ob_net.specs.Nodes.{is_among, with_one}
use Rattle.ob_net.specs.Reach.{is_reached}
use Rattle.ob_net.specs.Supplies.{AreChanged}
use Rattle.ob_net.proofs.Components.{explored_first, same_among}

-- the device k is closed: it, and the others as before
pub closed_here : (ps : List Pos) (k : ℕ) → k < length ps → IsClosedAt (set ps k Closed) k
closed_here ps k l = get_or-set_at ps k k Closed Opened refl l

pub closed_more : (ps : List Pos) (k j : ℕ) → k < length ps → IsClosedAt ps j → IsClosedAt (set ps k Closed) j
closed_more ps k j l c =
    elim (cases_eq j k) [
      | inl e ↦ get_or-set_at ps k j Closed Opened e l
      | inr ne ↦ get_or-set_other ps k j Closed Opened ne ∙ c
    ]

closed_other : (ps : List Pos) (k j : ℕ) → (j ≡ k → ⊥) → IsClosedAt (set ps k Closed) j → IsClosedAt ps j
closed_other ps k j ne c = sym (get_or-set_other ps k j Closed Opened ne) ∙ c

-- a test that says the same of both ends of each closed device
pub alike_less : (test : ℕ → Bool) (ends : List (ℕ × ℕ)) (ps : List Pos) (k : ℕ) → k < length ps → IsAlikeOver test ends (set ps k Closed) → IsAlikeOver test ends ps
alike_less test ends ps k l h j m c = h j m (closed_more ps k j l c)

pub alike_more : (test : ℕ → Bool) (ends : List (ℕ × ℕ)) (ps : List Pos) (k : ℕ) → test (ends_at ends k).0 ≡ test (ends_at ends k).1 → IsAlikeOver test ends ps → IsAlikeOver test ends (set ps k Closed)
alike_more test ends ps k e h j m c =
    elim (cases_eq j k) [
      | inl at ↦ subst (λ (i : ℕ). test (ends_at ends i).0 ≡ test (ends_at ends i).1) (sym at) e
      | inr ne ↦ h j m (closed_other ps k j ne c)
    ]

pub alike_here : (test : ℕ → Bool) (ends : List (ℕ × ℕ)) (ps : List Pos) (k : ℕ) → k < length ps → k < length ends → IsAlikeOver test ends (set ps k Closed) → test (ends_at ends k).0 ≡ test (ends_at ends k).1
alike_here test ends ps k l m h = h k m (closed_here ps k l)

-- two tests that say the same of both ends make one that does
alike_cond : (test one other : ℕ → Bool) (ends : List (ℕ × ℕ)) (ps : List Pos) → IsAlikeOver test ends ps → IsAlikeOver one ends ps → IsAlikeOver other ends ps → IsAlikeOver (λ v. cond (test v) (one v) (other v)) ends ps
alike_cond test one other ends ps t f g j m c =
    ap (λ b. cond b (one (ends_at ends j).0) (other (ends_at ends j).0)) (t j m c)
    ∙ ap (λ x. cond (test (ends_at ends j).1) x (other (ends_at ends j).0)) (f j m c)
    ∙ ap (λ x. cond (test (ends_at ends j).1) (one (ends_at ends j).1) x) (g j m c)

alike_const : (b : Bool) (ends : List (ℕ × ℕ)) (ps : List Pos) → IsAlikeOver (λ v. b) ends ps
alike_const b ends ps j m c = refl

alike_as : (test new : ℕ → Bool) (ends : List (ℕ × ℕ)) (ps : List Pos) → ((v : ℕ) → new v ≡ test v) → IsAlikeOver test ends ps → IsAlikeOver new ends ps
alike_as test new ends ps e h j m c = e (ends_at ends j).0 ∙ h j m c ∙ sym (e (ends_at ends j).1)

-- a closed device whose ends were both connected to the start, or both not, changes nothing
pub closing_alike : (ends : List (ℕ × ℕ)) (ps : List Pos) (k start : ℕ) (has : ℕ → Bool) → k < length ps → has (ends_at ends k).0 ≡ has (ends_at ends k).1 → IsComponent ends ps start has → IsComponent ends (set ps k Closed) start has
closing_alike ends ps k start has l e h = record {
  at = h.at;
  alike = alike_more has ends ps k e h.alike;
  least = λ v is test alike. h.least v is test (alike_less test ends ps k l alike);
}

-- a closed device between a connected node and another one connects all that is connected to the other one
closing_joins : (ends : List (ℕ × ℕ)) (ps : List Pos) (k start x d : ℕ) (has part new : ℕ → Bool) → k < length ps → ((test : ℕ → Bool) → IsAlikeOver test ends (set ps k Closed) → test d ≡ test x) → has x ≡ true → new (ends_at ends k).0 ≡ new (ends_at ends k).1 → ((v : ℕ) → new v ≡ cond (part v) true (has v)) → IsComponent ends ps start has → IsComponent ends ps d part → IsComponent ends (set ps k Closed) start new
closing_joins ends ps k start x d has part new l dx live e each h p = record {
  at = each start ∙ either (part start) (has start) h.at;
  alike = alike_more new ends ps k e (alike_as (λ v. cond (part v) true (has v)) new ends ps each (alike_cond part (λ v. true) has ends ps p.alike (alike_const true ends ps) h.alike));
  least = λ v is test alike.
      let less = alike_less test ends ps k l alike in
      elim (cases_Bool (part v)) [
        | inl t ↦ p.least v t test less ∙ dx test alike ∙ h.least x live test less
        | inr f ↦ h.least v (sym (cond-false (part v) true (has v) f) ∙ sym (each v) ∙ is) test less
      ];
}
  where
    either : (b c : Bool) → c ≡ true → cond b true c ≡ true
    either true c t = refl
    either false c t = t

pub closing_second : (ends : List (ℕ × ℕ)) (ps : List Pos) (k start : ℕ) (has part new : ℕ → Bool) → k < length ps → k < length ends → has (ends_at ends k).0 ≡ true → ((v : ℕ) → new v ≡ cond (part v) true (has v)) → IsComponent ends ps start has → IsComponent ends ps (ends_at ends k).1 part → IsComponent ends (set ps k Closed) start new
closing_second ends ps k start has part new l m live each h p =
    let a = (ends_at ends k).0 in
    let b = (ends_at ends k).1 in
    closing_joins ends ps k start a b has part new l (λ test alike. sym (alike_here test ends ps k l m alike)) live
    (each a ∙ either (part a) (has a) live ∙ sym (each b ∙ cond-true (part b) true (has b) p.at)) each h p
  where
    either : (b c : Bool) → c ≡ true → cond b true c ≡ true
    either true c t = refl
    either false c t = t

pub closing_first : (ends : List (ℕ × ℕ)) (ps : List Pos) (k start : ℕ) (has part new : ℕ → Bool) → k < length ps → k < length ends → has (ends_at ends k).1 ≡ true → ((v : ℕ) → new v ≡ cond (part v) true (has v)) → IsComponent ends ps start has → IsComponent ends ps (ends_at ends k).0 part → IsComponent ends (set ps k Closed) start new
closing_first ends ps k start has part new l m live each h p =
    let a = (ends_at ends k).0 in
    let b = (ends_at ends k).1 in
    closing_joins ends ps k start b a has part new l (λ test alike. alike_here test ends ps k l m alike) live
    (each a ∙ cond-true (part a) true (has a) p.at ∙ sym (each b ∙ either (part b) (has b) live)) each h p
  where
    either : (b c : Bool) → c ≡ true → cond b true c ≡ true
    either true c t = refl
    either false c t = t

-- opening a device whose ends weren't connected to the start changes nothing
pub opening_dead : (ends : List (ℕ × ℕ)) (ps : List Pos) (k start : ℕ) (has : ℕ → Bool) → k < length ps → k < length ends → has (ends_at ends k).0 ≡ false → IsComponent ends (set ps k Closed) start has → IsComponent ends ps start has
opening_dead ends ps k start has l m dead h = record {
  at = h.at;
  alike = alike_less has ends ps k l h.alike;
  least = λ v is test alike.
      let a = (ends_at ends k).0 in
      let b = (ends_at ends k).1 in
      let only : ℕ → Bool = λ u. cond (has u) (test u) false in
      let also : has b ≡ false = sym (alike_here has ends ps k l m h.alike) ∙ dead in
      let all = alike_more only ends ps k (cond-false (has a) (test a) false dead ∙ sym (cond-false (has b) (test b) false also))
      (alike_cond has test (λ u. false) ends ps (alike_less has ends ps k l h.alike) alike (alike_const false ends ps)) in
      sym (cond-true (has v) (test v) false is) ∙ h.least v is only all ∙ cond-true (has start) (test start) false h.at;
}

-- opening a device whose ends both stay connected to the start changes nothing
pub opening_kept : (ends : List (ℕ × ℕ)) (ps : List Pos) (k start : ℕ) (has : ℕ → Bool) → k < length ps → ((test : ℕ → Bool) → IsAlikeOver test ends ps → test (ends_at ends k).0 ≡ test (ends_at ends k).1) → IsComponent ends (set ps k Closed) start has → IsComponent ends ps start has
opening_kept ends ps k start has l still h = record {
  at = h.at;
  alike = alike_less has ends ps k l h.alike;
  least = λ v is test alike. h.least v is test (alike_more test ends ps k (still test alike) alike);
}

-- opening a device cuts off what is connected to one end, where that isn't connected to the start
opening_cuts : (ends : List (ℕ × ℕ)) (ps : List Pos) (k start x y : ℕ) (has part new : ℕ → Bool) → k < length ps → ((test : ℕ → Bool) → test x ≡ test y → test (ends_at ends k).0 ≡ test (ends_at ends k).1) → part start ≡ false → ((v : ℕ) → new v ≡ cond (part v) false (has v)) → IsComponent ends (set ps k Closed) start has → IsComponent ends ps x part → IsComponent ends ps start new
opening_cuts ends ps k start x y has part new l xy apart each h p = record {
  at = each start ∙ cond-false (part start) false (has start) apart ∙ h.at;
  alike = alike_as (λ v. cond (part v) false (has v)) new ends ps each (alike_cond part (λ v. false) has ends ps p.alike (alike_const false ends ps) (alike_less has ends ps k l h.alike));
  least = λ v is test alike.
      let moved : ℕ → Bool = λ u. cond (part u) (test y) (test u) in
      let far : part v ≡ false = apart_from (part v) (has v) (sym (each v) ∙ is) in
      let live : has v ≡ true = sym (cond-false (part v) false (has v) far) ∙ sym (each v) ∙ is in
      let all = alike_more moved ends ps k (xy moved (cond-true (part x) (test y) (test x) p.at ∙ sym (both (part y) (test y))))
      (alike_cond part (λ u. test y) test ends ps p.alike (alike_const (test y) ends ps) alike) in
      sym (cond-false (part v) (test y) (test v) far) ∙ h.least v live moved all ∙ cond-false (part start) (test y) (test start) apart;
}
  where
    apart_from : (b c : Bool) → cond b false c ≡ true → b ≡ false
    apart_from true c t = sym t
    apart_from false c t = refl

    both : (b c : Bool) → cond b c c ≡ c
    both true c = refl
    both false c = refl

pub opening_first : (ends : List (ℕ × ℕ)) (ps : List Pos) (k start : ℕ) (has part new : ℕ → Bool) → k < length ps → part start ≡ false → ((v : ℕ) → new v ≡ cond (part v) false (has v)) → IsComponent ends (set ps k Closed) start has → IsComponent ends ps (ends_at ends k).0 part → IsComponent ends ps start new
opening_first ends ps k start has part new l apart each h p =
    opening_cuts ends ps k start (ends_at ends k).0 (ends_at ends k).1 has part new l (λ test e. e) apart each h p

pub opening_second : (ends : List (ℕ × ℕ)) (ps : List Pos) (k start : ℕ) (has part new : ℕ → Bool) → k < length ps → part start ≡ false → ((v : ℕ) → new v ≡ cond (part v) false (has v)) → IsComponent ends (set ps k Closed) start has → IsComponent ends ps (ends_at ends k).1 part → IsComponent ends ps start new
opening_second ends ps k start has part new l apart each h p =
    opening_cuts ends ps k start (ends_at ends k).1 (ends_at ends k).0 has part new l (λ test e. sym e) apart each h p

-- the nodes of a list are the ones whose supply changed
pub changed_by : (old new : List Bool) (nodes : List ℕ) (value : Bool) → ((v : ℕ) → is_reached new v ≡ cond (is_among nodes v) value (is_reached old v)) → ((v : ℕ) → is_among nodes v ≡ true → is_reached old v ≡ not value) → All (λ v. v < length old) nodes → AllPairs (λ v w. v ≢ w) nodes → AreChanged old new nodes
changed_by old new nodes value each was below distinct = record {
  each = λ v. elim (cases_Bool (is_among nodes v)) [
    | inl t ↦
        each v ∙ cond-true (is_among nodes v) value (is_reached old v) t
        ∙ sym (cond-true (is_among nodes v) (not (is_reached old v)) (is_reached old v) t ∙ ap not (was v t) ∙ twice value)
    | inr f ↦
        each v ∙ cond-false (is_among nodes v) value (is_reached old v) f
        ∙ sym (cond-false (is_among nodes v) (not (is_reached old v)) (is_reached old v) f)
  ];
  below = below;
  distinct = distinct;
}
  where
    twice : (b : Bool) → not (not b) ≡ b
    twice true = refl
    twice false = refl

-- all that is connected to a node has the node's supply
pub part_same : (ends : List (ℕ × ℕ)) (ps : List Pos) (x v : ℕ) (has part : ℕ → Bool) → IsAlikeOver has ends ps → IsComponent ends ps x part → part v ≡ true → has v ≡ has x
part_same ends ps x v has part alike p is = p.least v is has alike

-- a part that GRID isn't in, since the node isn't supplied
pub part_without : (ends : List (ℕ × ℕ)) (ps : List Pos) (start x : ℕ) (has : ℕ → Bool) (nodes : List ℕ) → IsComponent ends ps start has → has x ≡ false → ((test : ℕ → Bool) → IsAlikeOver test ends ps → AreSame test x nodes) → is_among nodes start ≡ false
part_without ends ps start x has nodes h dead same =
    elim (cases_Bool (is_among nodes start)) [
      | inl t ↦ absurd (true≢false (sym h.at ∙ same_among has x nodes start (same has h.alike) t ∙ dead))
      | inr f ↦ f
    ]

-- both ends stay connected to GRID
pub both_kept : (ends : List (ℕ × ℕ)) (ps : List Pos) (start x y next : ℕ) (one found other : List ℕ) → ((test : ℕ → Bool) → IsAlikeOver test ends ps → AreSame test x found) → is_among found start ≡ true → (is_among other start ≡ false → (is_among one start ≡ false) × (length one ≤ next)) → (length one ≤ next → found ≡ one) → IsExplored ends ps y other next → (test : ℕ → Bool) → IsAlikeOver test ends ps → test x ≡ test y
both_kept ends ps start x y next one found other same has rest still h test alike =
    elim (cases_Bool (is_among other start)) [
      | inl t ↦ sym (same_among test x found start (same test alike) has) ∙ same_among test y other start (h.same test alike) t
      | inr f ↦
          let r = rest f in
          absurd (true≢false (sym has ∙ ap (λ (q : List ℕ). is_among q start) (still r.1) ∙ r.0))
    ]

-- a device that was closed is closed again
pub closed_again : (ps : List Pos) (k : ℕ) → k < length ps → get_or ps k Opened ≡ Closed → set (set ps k Opened) k Closed ≡ ps
closed_again [] k l e = absurd (omega (arith, l))
closed_again (p ∷ ps) zero l e = ap (λ q. q ∷ ps) (sym e)
closed_again (p ∷ ps) (suc k) l e = ap (λ (q : List Pos). p ∷ q) (closed_again ps k (omega (arith, l)) e)

-- what was found from one node alone
pub alone_explored : (ends : List (ℕ × ℕ)) (ps : List Pos) (x : ℕ) (old nodes : List ℕ) → nodes ≡ with_one old x → old ≡ [] → IsExplored ends ps x nodes 0
alone_explored ends ps x old nodes put none =
    subst (λ (q : List ℕ). IsExplored ends ps x q 0) (sym (put ∙ ap (λ (q : List ℕ). with_one q x) none)) (explored_first ends ps x)

-- following closed devices from a node that isn't supplied finds all that is connected to it
pub dead_part : (ends : List (ℕ × ℕ)) (ps : List Pos) (x : ℕ) (has : ℕ → Bool) (nodes found : List ℕ) → IsExplored ends ps x nodes 0 → IsComponent ends ps 0 has → has x ≡ false → ((start : ℕ) → IsExplored ends ps start nodes 0 → (test : ℕ → Bool) → IsAlikeOver test ends ps → AreSame test start found) → ((start : ℕ) → IsExplored ends ps start nodes 0 → is_among found 0 ≡ false → IsComponent ends ps start (is_among found)) → IsComponent ends ps x (is_among found)
dead_part ends ps x has nodes found h live dead same whole =
    whole x h (part_without ends ps 0 x has found live dead (same x h))

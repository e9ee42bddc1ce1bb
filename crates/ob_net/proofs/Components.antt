-- What following closed devices from a node finds.
use Rattle.std.proofs.Common.{◌≡◌, ℕ, ◌+◌, ◌-◌, ◌<◌, ◌≤◌, ◌||◌, ◌∷◌, ◌++◌, [], Bool, true, List, refl, sym, ap, subst, ◌∙◌, inl, inr, length, get_or, arith, zero, suc, false, true≢false, append_assoc, append-nil, length-append}
use Rattle.std.proofs.lemmas.Bool.{cases_Bool, cases_eq, cases_lt, cond-true, cond-false, eq-eqb, eqb-true}
use Rattle.std.proofs.lemmas.Bool.Decides.{eqb_tells}
use Rattle.std.proofs.lemmas.List.{get_or_append_left}
use Rattle.std.proofs.lemmas.List.Elements.{All-push}
use Rattle.std.proofs.lemmas.List.Folds.{list_any-append}
use Rattle.std.proofs.Math.Dec.{eqb}
use Rattle.ob_base.specs.declared.Pos.{Pos}
use Rattle.ob_net.specs.Joints.{AreFollowed, AreSame, IsAlikeOver, IsAlikeWithin, IsClosedAt, IsComponent, IsExplored, ends_at, is_end, last_at, other_end}
use Rattle.ob_net.specs.Nodes.{IsLonger, is_among, with_one}
use Rattle.ob_net.proofs.Chains.{end_a, end_b, last_at_end, last_at_most, none_after_last}
use Rattle.ob_net.proofs.Nodes.{among_last, with_new, with_old}

-- lists that grow
pub longer_itself : (nodes : List ℕ) → IsLonger nodes nodes
longer_itself nodes = ([], sym (append-nil nodes))

pub longer_on : (a b c : List ℕ) → IsLonger a b → IsLonger b c → IsLonger a c
longer_on a b c (x, g) (y, h) = (x ++ y, h ∙ ap (λ (q : List ℕ). q ++ y) g ∙ append_assoc a x y)

pub longer_among : (a b : List ℕ) (v : ℕ) → IsLonger a b → is_among a v ≡ true → is_among b v ≡ true
longer_among a b v (x, g) h = ap (λ (q : List ℕ). is_among q v) g ∙ list_any-append (λ u. eqb u v) a x ∙ ap (λ t. t || is_among x v) h

pub longer_at : (a b : List ℕ) (i : ℕ) → IsLonger a b → i < length a → get_or b i 0 ≡ get_or a i 0
longer_at a b i (x, g) l = ap (λ (q : List ℕ). get_or q i 0) g ∙ get_or_append_left a x 0 i l

pub longer_length : (a b : List ℕ) → IsLonger a b → length a ≤ length b
longer_length a b (x, g) = let e = ap length g ∙ length-append a x in omega (arith, e)

pub longer_one : (nodes : List ℕ) (v : ℕ) → IsLonger nodes (with_one nodes v)
longer_one nodes v =
    elim (cases_Bool (is_among nodes v)) [
      | inl t ↦ subst (IsLonger nodes) (sym (with_old nodes v t)) (longer_itself nodes)
      | inr f ↦ (v ∷ [], with_new nodes v f)
    ]

pub one_among : (nodes : List ℕ) (v : ℕ) → is_among (with_one nodes v) v ≡ true
one_among nodes v =
    elim (cases_Bool (is_among nodes v)) [
      | inl t ↦ ap (λ (q : List ℕ). is_among q v) (with_old nodes v t) ∙ t
      | inr f ↦ ap (λ (q : List ℕ). is_among q v) (with_new nodes v f) ∙ among_last nodes v v refl
    ]

pub one_same : (test : ℕ → Bool) (v : ℕ) (nodes : List ℕ) (w : ℕ) → test w ≡ test v → AreSame test v nodes → AreSame test v (with_one nodes w)
one_same test v nodes w e h =
    elim (cases_Bool (is_among nodes w)) [
      | inl t ↦ subst (AreSame test v) (sym (with_old nodes w t)) h
      | inr f ↦ subst (AreSame test v) (sym (with_new nodes w f)) (All-push (λ u. test u ≡ test v) nodes w h e)
    ]

-- a node that is among listed ones has a place
pub place_among : (nodes : List ℕ) (v : ℕ) → is_among nodes v ≡ true → (i : ℕ) × (i < length nodes) × (get_or nodes i 0 ≡ v)
place_among [] v h = absurd (true≢false (sym h))
place_among (x ∷ nodes) v h =
    elim (eqb_tells x v) [
      | inl e ↦ (0, omega arith, e.1)
      | inr f ↦
          let rest = place_among nodes v (sym (ap (λ b. b || is_among nodes v) f.0) ∙ h) in
          (suc rest.0, omega (arith, rest.1), rest.2)
    ]

-- a listed node is among them
among_at : (nodes : List ℕ) (i : ℕ) → i < length nodes → is_among nodes (get_or nodes i 0) ≡ true
among_at [] i l = absurd (omega (arith, l))
among_at (x ∷ nodes) zero l = ap (λ b. b || is_among nodes x) (eq-eqb x x refl)
among_at (x ∷ nodes) (suc i) l = or_second (eqb x (get_or nodes i 0)) (is_among nodes (get_or nodes i 0)) (among_at nodes i (omega (arith, l)))
  where
    or_second : (b c : Bool) → c ≡ true → (b || c) ≡ true
    or_second true c t = refl
    or_second false c t = t

pub same_among : (test : ℕ → Bool) (v : ℕ) (nodes : List ℕ) (w : ℕ) → AreSame test v nodes → is_among nodes w ≡ true → test w ≡ test v
same_among test v nodes w h is =
    let p = place_among nodes w is in
    ap test (sym p.2) ∙ h p.0 0 p.1

-- the other end of a device at a node is like the node
pub other_same : (test : ℕ → Bool) (ends : ℕ × ℕ) (v : ℕ) → is_end v ends ≡ true → test ends.0 ≡ test ends.1 → test (other_end v ends) ≡ test v
other_same test ends v is e =
    elim (eqb_tells ends.0 v) [
      | inl a ↦ ap test (cond-true (eqb ends.0 v) ends.1 ends.0 a.0) ∙ sym e ∙ ap test a.1
      | inr a ↦ ap test (cond-false (eqb ends.0 v) ends.1 ends.0 a.0) ∙ e ∙ ap test (eqb-true ends.1 v (sym (ap (λ x. x || eqb ends.1 v) a.0) ∙ is))
    ]

-- both ends of a device at a node are among listed nodes
both_ends : (nodes : List ℕ) (ends : ℕ × ℕ) (v : ℕ) → is_end v ends ≡ true → is_among nodes v ≡ true → is_among nodes (other_end v ends) ≡ true → (is_among nodes ends.0 ≡ true) × (is_among nodes ends.1 ≡ true)
both_ends nodes ends v is here there =
    elim (eqb_tells ends.0 v) [
      | inl a ↦ (ap (is_among nodes) a.1 ∙ here, ap (is_among nodes) (sym (cond-true (eqb ends.0 v) ends.1 ends.0 a.0)) ∙ there)
      | inr a ↦ (
        ap (is_among nodes) (sym (cond-false (eqb ends.0 v) ends.1 ends.0 a.0)) ∙ there,
        ap (is_among nodes) (eqb-true ends.1 v (sym (ap (λ x. x || eqb ends.1 v) a.0) ∙ is)) ∙ here,
      )
    ]

-- what is the same between more nodes is so between fewer
pub within_less : (test : ℕ → Bool) (ends : List (ℕ × ℕ)) (positions : List Pos) (old new : List ℕ) → IsLonger old new → IsAlikeWithin (is_among new) test ends positions → IsAlikeWithin (is_among old) test ends positions
within_less test ends positions old new longer alike k l c a b = alike k l c (longer_among old new (ends_at ends k).0 longer a) (longer_among old new (ends_at ends k).1 longer b)

-- the closed devices at a node, from the one with a number on, were followed
pub record AreFound (ends : List (ℕ × ℕ)) (positions : List Pos) (node : ℕ) (old : List ℕ) (joint : ℕ) (now : List ℕ) : Type 0 where
  pub begun : joint ≤ length ends
  pub at : 0 < joint → is_end node (ends_at ends (joint - 1)) ≡ true
  pub longer : IsLonger old now
  pub followed : (k : ℕ) → joint ≤ k → k < length ends → IsClosedAt positions k → is_end node (ends_at ends k) ≡ true → is_among now (other_end node (ends_at ends k)) ≡ true
  pub same : (test : ℕ → Bool) (v : ℕ) → IsAlikeOver test ends positions → test node ≡ test v → AreSame test v old → AreSame test v now
  pub within : (test : ℕ → Bool) (v : ℕ) → IsAlikeWithin (is_among now) test ends positions → is_among old node ≡ true → test node ≡ test v → AreSame test v old → AreSame test v now

pub found_first : (ends : List (ℕ × ℕ)) (positions : List Pos) (node : ℕ) (nodes : List ℕ) → AreFound ends positions node nodes (last_at ends node (length ends)) nodes
found_first ends positions node nodes = record {
  begun = last_at_most ends node (length ends);
  at = last_at_end ends node (length ends);
  longer = longer_itself nodes;
  followed = λ k from to c is. absurd (true≢false (sym is ∙ none_after_last ends node (length ends) k from to));
  same = λ test v alike e h. h;
  within = λ test v alike is e h. h;
}

-- one device more, from which the set is `new`
found_more : (ends : List (ℕ × ℕ)) (positions : List Pos) (node : ℕ) (old : List ℕ) (k : ℕ) (now new : List ℕ) → AreFound ends positions node old (k + 1) now → IsLonger now new → (IsClosedAt positions k → is_among new (other_end node (ends_at ends k)) ≡ true) → ((test : ℕ → Bool) (v : ℕ) → IsAlikeOver test ends positions → test node ≡ test v → AreSame test v now → AreSame test v new) → ((test : ℕ → Bool) (v : ℕ) → IsAlikeWithin (is_among new) test ends positions → is_among now node ≡ true → test node ≡ test v → AreSame test v now → AreSame test v new) → AreFound ends positions node old (last_at ends node k) new
found_more ends positions node old k now new h longer here same wide = record {
  begun = let l = h.begun in let m = last_at_most ends node k in omega (arith, l, m);
  at = last_at_end ends node k;
  longer = longer_on old now new h.longer longer;
  followed = λ j from to c is. elim (cases_eq j k) [
    | inl e ↦ subst (λ (i : ℕ). is_among new (other_end node (ends_at ends i)) ≡ true) (sym e) (here (subst (IsClosedAt positions) e c))
    | inr ne ↦ elim (cases_lt j k) [
      | inl below ↦ absurd (true≢false (sym is ∙ none_after_last ends node k j from below))
      | inr above ↦ longer_among now new (other_end node (ends_at ends j)) longer (h.followed j (omega (arith, ne, above)) to c is)
    ]
  ];
  same = λ test v alike e a. same test v alike e (h.same test v alike e a);
  within = λ test v alike is e a. wide test v alike (longer_among old now node h.longer is) e (h.within test v (within_less test ends positions now new longer alike) is e a);
}

pub found_closed : (ends : List (ℕ × ℕ)) (positions : List Pos) (node : ℕ) (old : List ℕ) (k : ℕ) (now : List ℕ) → IsClosedAt positions k → AreFound ends positions node old (k + 1) now → AreFound ends positions node old (last_at ends node k) (with_one now (other_end node (ends_at ends k)))
found_closed ends positions node old k now closed h =
    let w = other_end node (ends_at ends k) in
    let is : is_end node (ends_at ends k) ≡ true = let n : (k + 1) - 1 ≡ k = omega arith in subst (λ (j : ℕ). is_end node (ends_at ends j) ≡ true) n (h.at (omega arith)) in
    let below : k < length ends = let l = h.begun in omega (arith, l) in
    found_more ends positions node old k now (with_one now w) h (longer_one now w) (λ c. one_among now w)
    (λ test v alike e a. one_same test v now w (other_same test (ends_at ends k) node is (alike k below closed) ∙ e) a)
    (λ test v alike there e a.
    let both = both_ends (with_one now w) (ends_at ends k) node is (longer_among now (with_one now w) node (longer_one now w) there) (one_among now w) in
    one_same test v now w (other_same test (ends_at ends k) node is (alike k below closed both.0 both.1) ∙ e) a)

pub found_open : (ends : List (ℕ × ℕ)) (positions : List Pos) (node : ℕ) (old : List ℕ) (k : ℕ) (now : List ℕ) → (IsClosedAt positions k → ⊥) → AreFound ends positions node old (k + 1) now → AreFound ends positions node old (last_at ends node k) now
found_open ends positions node old k now opened h =
    found_more ends positions node old k now now h (longer_itself now) (λ c. absurd (opened c)) (λ test v alike e a. a) (λ test v alike is e a. a)

-- the node alone
pub explored_first : (ends : List (ℕ × ℕ)) (positions : List Pos) (v : ℕ) → IsExplored ends positions v (v ∷ []) 0
explored_first ends positions v = record {
  begins = among_last [] v v refl;
  same = λ test alike. All-push (λ w. test w ≡ test v) [] v (λ k d l. absurd (omega (arith, l))) refl;
  within = λ test alike. All-push (λ w. test w ≡ test v) [] v (λ k d l. absurd (omega (arith, l))) refl;
  followed = λ i l. absurd (omega arith);
}

-- fewer of them
pub explored_less : (ends : List (ℕ × ℕ)) (positions : List Pos) (start : ℕ) (nodes : List ℕ) (fewer next : ℕ) → fewer ≤ next → IsExplored ends positions start nodes next → IsExplored ends positions start nodes fewer
explored_less ends positions start nodes fewer next l h = record {
  begins = h.begins;
  same = h.same;
  within = h.within;
  followed = λ i k. h.followed i (omega (arith, k, l));
}

-- one more of the listed nodes was followed
pub explored_more : (ends : List (ℕ × ℕ)) (positions : List Pos) (start : ℕ) (old new : List ℕ) (next : ℕ) → next < length old → IsLonger old new → AreFollowed ends positions (get_or old next 0) new → ((test : ℕ → Bool) (v : ℕ) → IsAlikeOver test ends positions → test (get_or old next 0) ≡ test v → AreSame test v old → AreSame test v new) → ((test : ℕ → Bool) (v : ℕ) → IsAlikeWithin (is_among new) test ends positions → is_among old (get_or old next 0) ≡ true → test (get_or old next 0) ≡ test v → AreSame test v old → AreSame test v new) → IsExplored ends positions start old next → IsExplored ends positions start new (next + 1)
explored_more ends positions start old new next l longer followed same wide h = record {
  begins = longer_among old new start longer h.begins;
  same = λ test alike. same test start alike (h.same test alike next 0 l) (h.same test alike);
  within = λ test alike.
      let before = h.within test (within_less test ends positions old new longer alike) in
      wide test start alike (among_at old next l) (before next 0 l) before;
  followed = λ i k. elim (cases_eq i next) [
    | inl e ↦ subst (λ (v : ℕ). AreFollowed ends positions v new) (sym (ap (λ (j : ℕ). get_or new j 0) e ∙ longer_at old new next longer l)) followed
    | inr ne ↦
        let below : i < next = omega (arith, k, ne) in
        subst (λ (v : ℕ). AreFollowed ends positions v new) (sym (longer_at old new i longer (omega (arith, below, l))))
        (λ j m c is. longer_among old new (other_end (get_or old i 0) (ends_at ends j)) longer (h.followed i below j m c is))
  ];
}

-- two tests that hold together are one
pub both_true : {x y : Bool} → (x ≡ true → y ≡ true) → (y ≡ true → x ≡ true) → x ≡ y
both_true {x} {y} f g = elim (cases_Bool x) [
  | inl t ↦ t ∙ sym (f t)
  | inr n ↦ elim (cases_Bool y) [ inl t ↦ g t ∙ sym t | inr m ↦ n ∙ sym m ]
]

-- the listed nodes were all followed: they are the nodes that are connected to the first
pub component_of : (ends : List (ℕ × ℕ)) (positions : List Pos) (start : ℕ) (nodes : List ℕ) (next : ℕ) → length nodes ≤ next → IsExplored ends positions start nodes next → IsComponent ends positions start (is_among nodes)
component_of ends positions start nodes next all h = record {
  at = h.begins;
  alike = λ k l c.
      let e : ℕ × ℕ = ends_at ends k in
      both_true
      (λ is. subst (λ (v : ℕ). is_among nodes v ≡ true) (cond-true (eqb e.0 e.0) e.1 e.0 (eq-eqb e.0 e.0 refl)) (on e.0 is k l c (end_a e e.0 refl)))
      (λ is. elim (eqb_tells e.0 e.1) [
        | inl same ↦ ap (is_among nodes) same.1 ∙ is
        | inr other ↦ subst (λ (v : ℕ). is_among nodes v ≡ true) (cond-false (eqb e.0 e.1) e.1 e.0 other.0) (on e.1 is k l c (end_b e e.1 refl))
      ]);
  least = λ v is test alike. same_among test start nodes v (h.same test alike) is;
}
  where
    on : (v : ℕ) → is_among nodes v ≡ true → AreFollowed ends positions v nodes
    on v is =
        let p = place_among nodes v is in
        subst (λ (w : ℕ). AreFollowed ends positions w nodes) p.2 (h.followed p.0 (let l = p.1 in omega (arith, l, all)))

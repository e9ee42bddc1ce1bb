-- What following closed devices from single nodes tells of a device's ends, and of a node's supply.
use Rattle.std.proofs.Common.{◌≡◌, ℕ, ◌+◌, ◌<◌, ◌≤◌, ◌||◌, ◌⊎◌, Bool, true, false, List, refl, sym, ap, subst, ◌∙◌, inl, inr, length, get_or, map, set, arith, true≢false, get_or-set_other}
use Rattle.std.proofs.lemmas.Bool.{cases_Bool, cases_eq}
use Rattle.std.proofs.lemmas.Grind.{get_or-set_at}
use Rattle.std.proofs.lemmas.List.{get_or-map, get_or_default, length-map, same_lists}
use Rattle.ob_base.specs.declared.Pos.{Pos}
use Rattle.ob_net.specs.Joints.{AreSame, IsAlikeWithin, IsComponent, IsExplored, ends_at}
use Rattle.ob_net.specs.Nodes.{NodeList, is_among}
use Rattle.ob_net.specs.Traces.{AreConnectedWithin, AreTold}
use Rattle.ob_net.proofs.Components.{same_among}

-- what is the same between more nodes is so between fewer
narrowed : (test has wide : ℕ → Bool) (ends : List (ℕ × ℕ)) (ps : List Pos) → ((v : ℕ) → has v ≡ true → wide v ≡ true) → IsAlikeWithin wide test ends ps → IsAlikeWithin has test ends ps
narrowed test has wide ends ps more alike k l c a b = alike k l c (more (ends_at ends k).0 a) (more (ends_at ends k).1 b)

-- two sets that were followed, each from one of two nodes
abbrev pub AreFrom : List (ℕ × ℕ) → List Pos → ℕ → ℕ → ℕ → List ℕ → List ℕ → Type 0
AreFrom ends ps next a b one other =
    (IsExplored ends ps a one next × IsExplored ends ps b other next) ⊎ (IsExplored ends ps b one next × IsExplored ends ps a other next)

pub from_either : (ends : List (ℕ × ℕ)) (ps : List Pos) (next a b : ℕ) (one other new_one new_other : NodeList)
    → ((new_one ≡ one) × (new_other ≡ other)) ⊎ ((new_one ≡ other) × (new_other ≡ one))
    → IsExplored ends ps a one.nodes next → IsExplored ends ps b other.nodes next → AreFrom ends ps next a b new_one.nodes new_other.nodes
from_either ends ps next a b one other new_one new_other which first second =
    elim which as (λ _. AreFrom ends ps next a b new_one.nodes new_other.nodes) [
      | inl h ↦ inl (on a new_one one h.0 first, on b new_other other h.1 second)
      | inr h ↦ inr (on b new_one other h.0 second, on a new_other one h.1 first)
    ]
  where
    on : (x : ℕ) (new old : NodeList) → new ≡ old → IsExplored ends ps x old.nodes next → IsExplored ends ps x new.nodes next
    on x new old is h = subst (λ (n : NodeList). IsExplored ends ps x n.nodes next) (sym is) h

-- two nodes that were found from one node
pub both_found : (ends : List (ℕ × ℕ)) (ps : List Pos) (start next a b : ℕ) (nodes : List ℕ) → IsExplored ends ps start nodes next
    → is_among nodes a ≡ true → is_among nodes b ≡ true → AreConnectedWithin ends ps a b nodes
both_found ends ps start next a b nodes h one other test alike =
    same_among test start nodes a (h.within test alike) one ∙ sym (same_among test start nodes b (h.within test alike) other)

-- GRID was found from both
or_first : (b c : Bool) → b ≡ true → (b || c) ≡ true
or_first b c t = ap (λ x. x || c) t

or_second : (b c : Bool) → c ≡ true → (b || c) ≡ true
or_second true c t = refl
or_second false c t = t

pub grid_found : (ends : List (ℕ × ℕ)) (ps : List Pos) (x y next more : ℕ) (found other all : List ℕ) → IsExplored ends ps x found next → IsExplored ends ps y other more
    → is_among found 0 ≡ true → is_among other 0 ≡ true → ((v : ℕ) → is_among all v ≡ (is_among found v || is_among other v)) → AreConnectedWithin ends ps x y all
grid_found ends ps x y next more found other all f g one two each test alike =
    sym (same_among test x found 0 (f.within test (narrowed test (is_among found) (is_among all) ends ps (λ v t. each v ∙ or_first (is_among found v) (is_among other v) t) alike)) one)
    ∙ same_among test y other 0 (g.within test (narrowed test (is_among other) (is_among all) ends ps (λ v t. each v ∙ or_second (is_among found v) (is_among other v) t) alike)) two

-- where the set that was followed to its end has GRID, the other one has it too
pub other_has_grid : (next : ℕ) (one found other : List ℕ) → (is_among other 0 ≡ false → (is_among one 0 ≡ false) × (length one ≤ next)) → (length one ≤ next → found ≡ one)
    → is_among found 0 ≡ true → is_among other 0 ≡ true
other_has_grid next one found other rest kept has =
    elim (cases_Bool (is_among other 0)) as (λ _. is_among other 0 ≡ true) [
      | inl t ↦ t
      | inr f ↦
          let r = rest f in
          absurd (true≢false (sym has ∙ ap (λ (q : List ℕ). is_among q 0) (kept r.1) ∙ r.0))
    ]

-- whether a node is supplied: all that was found from it is as it is, and it is where GRID was found
module _ (ends : List (ℕ × ℕ)) (ps : List Pos) (node : ℕ) (found : List ℕ) (test : ℕ → Bool) (supplied : IsComponent ends ps 0 test) (same : AreSame test node found) where
  pub with_grid : is_among found 0 ≡ true → test node ≡ true
  with_grid t = sym (same_among test node found 0 same t) ∙ supplied.at

  pub without_grid : is_among found 0 ≡ false → IsComponent ends ps node (is_among found) → test node ≡ false
  without_grid f part =
      elim (cases_Bool (test node)) as (λ _. test node ≡ false) [
        | inl t ↦ absurd (true≢false (sym part.at ∙ supplied.least node t (is_among found) part.alike ∙ f))
        | inr n ↦ n
      ]

  pub more_live : (live dead new : List ℕ) → test node ≡ true → ((v : ℕ) → is_among new v ≡ (is_among live v || is_among found v)) → AreTold test live dead → AreTold test new dead
  more_live live dead new t each told = record {
    of_live = λ v is. elim (cases_Bool (is_among live v)) as (λ _. test v ≡ true) [
      | inl here ↦ told.of_live v here
      | inr not_here ↦ same_among test node found v same (sym (ap (λ b. b || is_among found v) not_here) ∙ sym (each v) ∙ is) ∙ t
    ];
    of_dead = told.of_dead;
  }

  pub more_dead : (live dead new : List ℕ) → test node ≡ false → ((v : ℕ) → is_among new v ≡ (is_among dead v || is_among found v)) → AreTold test live dead → AreTold test live new
  more_dead live dead new f each told = record {
    of_live = told.of_live;
    of_dead = λ v is. elim (cases_Bool (is_among dead v)) as (λ _. test v ≡ false) [
      | inl here ↦ told.of_dead v here
      | inr not_here ↦ same_among test node found v same (sym (ap (λ b. b || is_among found v) not_here) ∙ sym (each v) ∙ is) ∙ f
    ];
  }

-- what was told of the first nodes
abbrev pub AreToldFirst : (ℕ → Bool) → List ℕ → List Bool → ℕ → Type 0
AreToldFirst test nodes told count = (i : ℕ) → i < count → get_or told i false ≡ test (get_or nodes i 0)

pub told_more : (test : ℕ → Bool) (nodes : List ℕ) (told : List Bool) (count : ℕ) (b : Bool) → count < length told → b ≡ test (get_or nodes count 0)
    → AreToldFirst test nodes told count → AreToldFirst test nodes (set told count b) (count + 1)
told_more test nodes told count b l e h i m =
    elim (cases_eq i count) as (λ _. get_or (set told count b) i false ≡ test (get_or nodes i 0)) [
      | inl is ↦ get_or-set_at told count i b false is l ∙ e ∙ ap (λ (k : ℕ). test (get_or nodes k 0)) (sym is)
      | inr ne ↦ get_or-set_other told count i b false ne ∙ h i (omega (arith, m, ne))
    ]

pub told_all : (test : ℕ → Bool) (nodes : List ℕ) (told : List Bool) → length told ≡ length nodes → AreToldFirst test nodes told (length nodes) → told ≡ map test nodes
told_all test nodes told long h =
    same_lists told (map test nodes) (long ∙ sym (length-map nodes test))
    (λ k d l.
    let m : k < length nodes = omega (arith, l, long) in
    get_or_default told k d false l ∙ h k m ∙ sym (get_or-map test nodes k 0 d m))

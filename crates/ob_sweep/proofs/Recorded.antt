-- The loop over the nodes whose supply a step changed.
use Rattle.std.proofs.Common.{◌≡◌, ◌≢◌, ℕ, suc, zero, ◌+◌, ◌<◌, ◌≤◌, ◌||◌, Bool, true, false, not, cond, List, [], ◌∷◌, refl, sym, ◌∙◌, ap, arith, inl, inr, length, get_or, take, Option, get_or-set_other}
use Rattle.std.proofs.Math.ListN.{set}
use Rattle.std.proofs.Math.Dec.{eqb}
use Rattle.std.specs.List.{AllPairs}
use Rattle.std.proofs.lemmas.Bool.{cases_Bool, cases_eq, cond-true, cond-false, eq-eqb}
use Rattle.std.proofs.lemmas.Bool.Decides.{eqb_tells}
use Rattle.std.proofs.lemmas.Grind.{get_or-set_at}
use Rattle.std.proofs.lemmas.List.{get_or-take, get_or_default, length-take-le, same_lists, take_all}
use Rattle.std.proofs.lemmas.List.Folds.{list_any_more}
use Rattle.ob_net.specs.Nodes.{is_among}
use Rattle.ob_net.specs.Reach.{is_reached}
use Rattle.ob_net.specs.Supplies.{AreChanged}
use Rattle.ob_net.proofs.Components.{place_among}
use Rattle.ob_sweep.specs.declared.Run.{Run}
use Rattle.ob_sweep.specs.Steps.{push, push_all}

-- what a step that changes a node's supply does to its runs
abbrev pub turned : List Bool → ℕ → ℕ → Option ℕ → ℕ → List Run → List Run
turned live second hi number v rs = push v (not (is_reached live v)) (is_reached live v) second hi number rs

-- the step is recorded at the first so many of the nodes whose supply it changed, and nothing else is done
abbrev pub AreRecorded : List (List Run) → List (List Run) → List Bool → List ℕ → ℕ → ℕ → Option ℕ → ℕ → Type 0
AreRecorded old new live changed second hi number i =
    (v : ℕ) → v < length old → get_or new v [] ≡ cond (is_among (take i changed) v) (turned live second hi number v (get_or old v [])) (get_or old v [])

or_true : (b : Bool) → (b || true) ≡ true
or_true true = refl
or_true false = refl

or_false : (b : Bool) → (b || false) ≡ b
or_false true = refl
or_false false = refl

-- a node comes once
none_twice : (changed : List ℕ) (i x : ℕ) → i < length changed → x ≡ get_or changed i x → AllPairs (λ v w. v ≢ w) changed → is_among (take i changed) x ≡ false
none_twice changed i x l is distinct =
    elim (cases_Bool (is_among (take i changed) x)) [
      | inl t ↦
          let p = place_among (take i changed) x t in
          let long = length-take-le i changed (omega (arith, l)) in
          let below : p.0 < i = let m = p.1 in omega (arith, m, long) in
          absurd (distinct p.0 i 0 below l (sym (get_or-take i changed p.0 0 below) ∙ p.2 ∙ is ∙ get_or_default changed i x 0 l))
      | inr f ↦ f
    ]

-- one node more
pub recorded_more : (old now : List (List Run)) (live : List Bool) (changed : List ℕ) (second hi : ℕ) (number : Option ℕ) (i x : ℕ) (runs was : List Run) → i < length changed → x ≡ get_or changed i x → AllPairs (λ v w. v ≢ w) changed → x < length now → length now ≡ length old → was ≡ get_or now x [] → runs ≡ turned live second hi number x was
    → AreRecorded old now live changed second hi number i → AreRecorded old (set now x runs) live changed second hi number (i + 1)
recorded_more old now live changed second hi number i x runs was l is distinct within long at new h v m =
    let more : is_among (take (i + 1) changed) v ≡ (is_among (take i changed) v || eqb x v) =
    list_any_more (λ w. eqb w v) changed i x l ∙ ap (λ w. is_among (take i changed) v || eqb w v) (sym is) in
    elim (cases_eq v x) [
      | inl e ↦
          let here : was ≡ get_or old x [] =
          at ∙ h x (omega (arith, within, long)) ∙ cond-false (is_among (take i changed) x) (turned live second hi number x (get_or old x [])) (get_or old x []) (none_twice changed i x l is distinct) in
          get_or-set_at now x v runs [] e within ∙ new ∙ ap (turned live second hi number x) here
          ∙ ap (λ w. turned live second hi number w (get_or old w [])) (sym e)
          ∙ sym (cond-true (is_among (take (i + 1) changed) v) (turned live second hi number v (get_or old v [])) (get_or old v [])
          (more ∙ ap (λ b. is_among (take i changed) v || b) (eq-eqb x v (sym e)) ∙ or_true (is_among (take i changed) v)))
      | inr ne ↦
          get_or-set_other now x v runs [] ne ∙ h v m
          ∙ ap (λ b. cond b (turned live second hi number v (get_or old v [])) (get_or old v [])) (sym (more ∙ apart ne))
    ]
  where
    apart : (v ≡ x → ⊥) → (is_among (take i changed) v || eqb x v) ≡ is_among (take i changed) v
    apart ne = elim (eqb_tells x v) [
      | inl t ↦ absurd (ne (sym t.1))
      | inr f ↦ ap (λ b. is_among (take i changed) v || b) f.0 ∙ or_false (is_among (take i changed) v)
    ]

-- each node's runs, where the step is recorded at every node
push_all_at : (second hi : ℕ) (number : Option ℕ) (v i : ℕ) (before after : List Bool) (lists : List (List Run)) → i < length lists → length before ≡ length lists → length after ≡ length lists
    → get_or (push_all v before after second hi number lists) i [] ≡ push (v + i) (is_reached before i) (is_reached after i) second hi number (get_or lists i [])
push_all_at second hi number v i before after [] l b a = absurd (omega arith)
push_all_at second hi number v i [] after (r ∷ lists) l b a = absurd (omega arith)
push_all_at second hi number v i (x ∷ before) [] (r ∷ lists) l b a = absurd (omega arith)
push_all_at second hi number v zero (x ∷ before) (y ∷ after) (r ∷ lists) l b a = let same : v ≡ v + 0 = omega arith in ap (λ k. push k x y second hi number r) same
push_all_at second hi number v (suc i) (x ∷ before) (y ∷ after) (r ∷ lists) l b a =
    let place : (v + 1) + i ≡ v + suc i = omega arith in
    push_all_at second hi number (v + 1) i before after lists (omega arith) (omega arith) (omega arith)
    ∙ ap (λ k. push k (is_reached before i) (is_reached after i) second hi number (get_or lists i [])) place

length-push_all : (second hi : ℕ) (number : Option ℕ) (v : ℕ) (before after : List Bool) (lists : List (List Run)) → length before ≡ length lists → length after ≡ length lists → length (push_all v before after second hi number lists) ≡ length lists
length-push_all second hi number v [] after lists b a = refl
length-push_all second hi number v (x ∷ before) [] lists b a = refl
length-push_all second hi number v (x ∷ before) (y ∷ after) [] b a = refl
length-push_all second hi number v (x ∷ before) (y ∷ after) (r ∷ lists) b a = ap suc (length-push_all second hi number (v + 1) before after lists (omega arith) (omega arith))

push_same : (v : ℕ) (b : Bool) (second hi : ℕ) (number : Option ℕ) (rs : List Run) → push v b b second hi number rs ≡ rs
push_same v true second hi number rs = refl
push_same v false second hi number rs = refl

not_twice : (b : Bool) → not (not b) ≡ b
not_twice true = refl
not_twice false = refl

-- at a node whose supply changed, and at another one
one_node : (live before : List Bool) (changed : List ℕ) (second hi : ℕ) (number : Option ℕ) (v : ℕ) (rs : List Run) → AreChanged before live changed
    → cond (is_among changed v) (turned live second hi number v rs) rs ≡ push v (is_reached before v) (is_reached live v) second hi number rs
one_node live before changed second hi number v rs h =
    elim (cases_Bool (is_among changed v)) [
      | inl t ↦
          let new = h.each v ∙ cond-true (is_among changed v) (not (is_reached before v)) (is_reached before v) t in
          cond-true (is_among changed v) (turned live second hi number v rs) rs t
          ∙ ap (λ b. push v b (is_reached live v) second hi number rs) (ap not new ∙ not_twice (is_reached before v))
      | inr f ↦
          let same = h.each v ∙ cond-false (is_among changed v) (not (is_reached before v)) (is_reached before v) f in
          cond-false (is_among changed v) (turned live second hi number v rs) rs f
          ∙ sym (ap (λ b. push v (is_reached before v) b second hi number rs) same ∙ push_same v (is_reached before v) second hi number rs)
    ]

-- at all nodes whose supply changed, so at every node
pub recorded_all : (old new : List (List Run)) (live before : List Bool) (changed : List ℕ) (second hi : ℕ) (number : Option ℕ) (i : ℕ) → length old ≡ length live → length new ≡ length old → length before ≡ length live → length changed ≤ i → AreChanged before live changed
    → AreRecorded old new live changed second hi number i → new ≡ push_all 0 before live second hi number old
recorded_all old new live before changed second hi number i count long lb all h done =
    let bs : length before ≡ length old = lb ∙ sym count in
    let ls : length live ≡ length old = sym count in
    let none : take i changed ≡ changed = take_all i changed all in
    same_lists new (push_all 0 before live second hi number old) (long ∙ sym (length-push_all second hi number 0 before live old bs ls))
    (λ v d l.
    let m : v < length old = omega (arith, l, long) in
    let n : v < length (push_all 0 before live second hi number old) = let e = length-push_all second hi number 0 before live old bs ls in omega (arith, e, m) in
    let place : 0 + v ≡ v = omega arith in
    get_or_default new v d [] l ∙ done v m
    ∙ ap (λ (q : List ℕ). cond (is_among q v) (turned live second hi number v (get_or old v [])) (get_or old v [])) none
    ∙ one_node live before changed second hi number v (get_or old v []) h
    ∙ ap (λ k. push k (is_reached before v) (is_reached live v) second hi number (get_or old v [])) (sym place)
    ∙ sym (push_all_at second hi number 0 v before live old m bs ls)
    ∙ get_or_default (push_all 0 before live second hi number old) v [] d n)

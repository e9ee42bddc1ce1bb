-- Of two lists with the same elements, of which one rises strictly and the other rises, there is one.
use Rattle.std.proofs.Common.{◌≡◌, ℕ, ◌<◌, false, cond, List, [], ◌∷◌, length, map, Ordering, Less, Equal, Greater, refl, sym, ap, ap₂, ◌∙◌, arith, inl, inr, get_or, zero, suc, subst}
use Rattle.std.specs.Prelude.{⊤, IsSorted}
use Rattle.std.specs.List.{AllByRecursion, Contains, sum_by}
use Rattle.std.specs.List.Sorted.{IsPermutation, IsStrictlySortedBy}
use Rattle.std.specs.Ordering.{is_lt, ordering_reverse}
use Rattle.std.specs.Cmp.{IsTotalOrder}
use Rattle.std.proofs.lemmas.List.Sums.{sum_by-cons}
use Rattle.std.proofs.lemmas.List.Sorted.{sum_by-IsPermutation}
use Rattle.std.proofs.lemmas.Cmp.{tied_itself}
use Rattle.std.specs.Prelude.{◌⊎◌}
use Rattle.std.proofs.lemmas.Map.Keys.{Less-from_sorted}
use Rattle.std.proofs.lemmas.List.{get_or_default}
use Rattle.std.proofs.lemmas.List.Elements.{recursion_from_All, All-contains_itself}
use Rattle.std.proofs.lemmas.List.Sorted.{All-permutation, IsPermutation-sym, sorted_far, ranks_by}
use Rattle.ob_sql_read.specs.Rising.{Rises}

-- so many elements are below the bound
below : {X K : Type 0} (cmp : K → K → Ordering) (key : X → K) (bound : X) → X → ℕ
below cmp key bound x = cond (is_lt (cmp (key x) (key bound))) 1 0

none_below : {X : Type 0} (f : X → ℕ) (xs : List X) → AllByRecursion (λ x. f x ≡ 0) xs → sum_by f xs ≡ 0
none_below f [] all = refl
none_below f (x ∷ xs) all = omega (arith, sum_by-cons f x xs, all.0, none_below f xs all.1)

mapped : {X : Type 0} (P Q : X → Type 0) (f : (x : X) → P x → Q x) (xs : List X) → AllByRecursion P xs → AllByRecursion Q xs
mapped P Q f [] h = tt
mapped P Q f (x ∷ xs) h = (f x h.0, mapped P Q f xs h.1)

module _ {X : Type 0} (cmp : X → X → Ordering) (total : IsTotalOrder cmp) where
  abbrev under : X → X → ℕ
  under bound x = cond (is_lt (cmp x bound)) 1 0

  above_is : (x y : X) → cmp x y ≡ Less → under x y ≡ 0
  above_is x y h = let turned : cmp y x ≡ Greater = total.antisymm y x ∙ ap ordering_reverse h in rw turned

  -- elements that tie are one
  module _ (P : X → Type 0) (one : (x y : X) → P x → P y → cmp x y ≡ Equal → x ≡ y) where
    tie : (x y : X) (xs ys : List X) → sum_by (under y) (x ∷ xs) ≡ sum_by (under y) (y ∷ ys) → sum_by (under x) (x ∷ xs) ≡ sum_by (under x) (y ∷ ys)
        → AllByRecursion (λ e. is_lt (cmp e x) ≡ false) xs → AllByRecursion (λ e. cmp y e ≡ Less) ys → (o : Ordering) → cmp x y ≡ o → o ≡ Equal
    tie x y xs ys by_y by_x rises strict Less is =
        let none = none_below (under y) ys (mapped _ _ (above_is y) ys strict) in
        let self : under y y ≡ 0 = rw (tied_itself total y) in
        let some : under y x ≡ 1 = rw is in
        absurd (omega (arith, by_y, sum_by-cons (under y) x xs, sum_by-cons (under y) y ys, none, self, some))
    tie x y xs ys by_y by_x rises strict Equal is = refl
    tie x y xs ys by_y by_x rises strict Greater is =
        let none = none_below (under x) xs (mapped (λ e. is_lt (cmp e x) ≡ false) (λ e. under x e ≡ 0) (λ e h. rw h) xs rises) in
        let self : under x x ≡ 0 = rw (tied_itself total x) in
        let turned : cmp y x ≡ Less = total.antisymm y x ∙ ap ordering_reverse is in
        let some : under x y ≡ 1 = rw turned in
        absurd (omega (arith, by_x, sum_by-cons (under x) x xs, sum_by-cons (under x) y ys, none, self, some))

    pub same_by_sums : (xs ys : List X) → ((f : X → ℕ) → sum_by f xs ≡ sum_by f ys) → AllByRecursion P xs → AllByRecursion P ys → Rises cmp xs → IsStrictlySortedBy cmp ys → xs ≡ ys
    unfolding IsStrictlySortedBy
    same_by_sums [] [] sums p q rises strict = refl
    same_by_sums [] (y ∷ ys) sums p q rises strict = absurd (omega (arith, sums (λ _. 1), sum_by-cons (λ _. 1) y ys))
    same_by_sums (x ∷ xs) [] sums p q rises strict = absurd (omega (arith, sums (λ _. 1), sum_by-cons (λ _. 1) x xs))
    same_by_sums (x ∷ xs) (y ∷ ys) sums p q rises strict =
        let first : x ≡ y = one x y p.0 q.0 (tie x y xs ys (sums (under y)) (sums (under x)) rises.0 strict.0 (cmp x y) refl) in
        let rest : (f : X → ℕ) → sum_by f xs ≡ sum_by f ys = λ f. let head : f x ≡ f y = ap f first in omega (arith, sums f, sum_by-cons f x xs, sum_by-cons f y ys, head) in
        ap₂ (λ a l. a ∷ l) first (same_by_sums xs ys rest p.1 q.1 rises.1 strict.1)

places : (i j : ℕ) → (i < j) ⊎ ((i ≡ j) ⊎ (j < i))
places zero zero = inr (inl refl)
places zero (suc j) = inl (omega arith)
places (suc i) zero = inr (inr (omega arith))
places (suc i) (suc j) = elim (places i j) [
  | inl less ↦ inl (omega arith)
  | inr (inl same) ↦ inr (inl (ap suc same))
  | inr (inr more) ↦ inr (inr (omega arith))
]

abbrev tied : Ordering → Type 0
tied Less = ⊥
tied Equal = ⊤
tied Greater = ⊥

module _ {X : Type 0} (cmp : X → X → Ordering) (total : IsTotalOrder cmp) where
  -- members of a list that rises strictly tie only where they are one
  one_place : (full : List X) → IsStrictlySortedBy cmp full → (x y : X) → Contains full x → Contains full y → cmp x y ≡ Equal → x ≡ y
  one_place full strict x y a b ties =
      let there : get_or full b.0 x ≡ y = get_or_default full b.0 x y b.1 ∙ b.2 in
      elim (places a.0 b.0) [
        | inl less ↦ let below : cmp x y ≡ Less = (rw (a.2, there) at (Less-from_sorted cmp full a.0 b.0 x strict less b.1)) in absurd (subst tied (sym ties ∙ below) tt)
        | inr (inl same) ↦ sym a.2 ∙ ap (λ n. get_or full n x) same ∙ there
        | inr (inr more) ↦
            let below : cmp y x ≡ Less = (rw (a.2, there) at (Less-from_sorted cmp full b.0 a.0 x strict more a.1)) in
            let turned : cmp x y ≡ Greater = total.antisymm x y ∙ ap ordering_reverse below in absurd (subst tied (sym ties ∙ turned) tt)
      ]

  rises_from : (xs : List X) → ((i j : ℕ) (d : X) → i < j → j < length xs → is_lt (cmp (get_or xs j d) (get_or xs i d)) ≡ false) → Rises cmp xs
  rises_from [] h = tt
  rises_from (x ∷ xs) h = (recursion_from_All (λ y. is_lt (cmp y x) ≡ false) xs (λ j d low. h 0 (suc j) d (omega arith) (omega (arith, low))), rises_from xs (λ i j d less low. h (suc i) (suc j) d (omega (arith, less)) (omega (arith, low))))

  -- the one list that rises strictly is every sorted one with its elements
  pub same_when_sorted : (xs ys : List X) → IsPermutation xs ys → IsSorted cmp xs → IsStrictlySortedBy cmp ys → xs ≡ ys
  same_when_sorted xs ys moved sorted strict =
      let here = All-contains_itself ys in
      same_by_sums cmp total (Contains ys) (one_place ys strict) xs ys (λ f. sym (sum_by-IsPermutation f xs ys moved))
      (recursion_from_All (Contains ys) xs (All-permutation (Contains ys) ys xs (IsPermutation-sym xs ys moved) here)) (recursion_from_All (Contains ys) ys here)
      (rises_from xs (λ i j d less low. sorted_far (λ x y. is_lt (cmp x y)) (ranks_by total (λ x. x)) xs sorted i j d (omega (arith, less)) low)) strict

-- a list of f's values rises where the list rises by f
pub rises_mapped : {X Y : Type 0} (f : X → Y) (by_x : X → X → Ordering) (by_y : Y → Y → Ordering) → ((a b : X) → by_y (f a) (f b) ≡ by_x a b) → (xs : List X) → IsStrictlySortedBy by_x xs → IsStrictlySortedBy by_y (map f xs)
unfolding IsStrictlySortedBy
rises_mapped f by_x by_y same [] up = tt
rises_mapped {X = X} f by_x by_y same (x ∷ xs) up = (above xs up.0, rises_mapped f by_x by_y same xs up.1)
  where
    above : (ys : List X) → AllByRecursion (λ y. by_x x y ≡ Less) ys → AllByRecursion (λ y. by_y (f x) y ≡ Less) (map f ys)
    above [] all = tt
    above (y ∷ ys) all = (same x y ∙ all.0, above ys all.1)

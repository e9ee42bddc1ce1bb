-- What a binary search of a rising list of numbers says.
use Rattle.std.proofs.Common.{◌≡◌, ◌∙◌, subst, ℕ, ◌<◌, ◌≤◌, List, length, get_or, Result, Ok, Err, is_ok, true, false, inl, inr, arith}
use Rattle.std.specs.List.{AllPairs, Contains}
use Rattle.std.specs.List.Sorted.{IsBinarySearchResult}
use Rattle.std.specs.Ordering.{nat_cmp}
use Rattle.std.proofs.lemmas.Bool.{cases_lt}
use Rattle.std.proofs.lemmas.List.{get_or_default}
use Rattle.std.proofs.lemmas.List.Sorted.{searched}

no_less : (ns : List ℕ) → AllPairs (λ v w. v < w) ns → (i j : ℕ) → i ≤ j → j < length ns → get_or ns i 0 ≤ get_or ns j 0
no_less ns rising i j l h =
    elim (cases_lt i j) as (λ _. get_or ns i 0 ≤ get_or ns j 0) [
      | inl less ↦ (let up = rising i j 0 less h in omega arith)
      | inr not ↦ (let same : i ≡ j = omega arith in subst (λ k. get_or ns i 0 ≤ get_or ns k 0) same (omega arith))
    ]

pub is_among : (ns : List ℕ) (n : ℕ) (r : Result ℕ ℕ) → AllPairs (λ v w. v < w) ns → IsBinarySearchResult (λ y. nat_cmp y n) ns r → is_ok r ≡ true → Contains ns n
is_among ns n (Ok i) rising h ok =
    let at = searched ns n (Ok i) h (no_less ns rising) in
    (i, at.0, get_or_default ns i n 0 at.0 ∙ at.1)
is_among ns n (Err i) rising h ok = cc

pub isnt_among : (ns : List ℕ) (n : ℕ) (r : Result ℕ ℕ) → AllPairs (λ v w. v < w) ns → IsBinarySearchResult (λ y. nat_cmp y n) ns r → is_ok r ≡ false → Contains ns n → ⊥
isnt_among ns n (Ok i) rising h fails at = cc
isnt_among ns n (Err i) rising h fails at =
    let places = searched ns n (Err i) h (no_less ns rising) in
    let here : get_or ns at.0 0 ≡ n = get_or_default ns at.0 0 n at.1 ∙ at.2 in
    elim (cases_lt at.0 i) as (λ _. ⊥) [
      | inl below ↦ (let less = places.1 at.0 below in omega (arith, less, here))
      | inr from ↦ (let more = places.2 at.0 from at.1 in omega (arith, more, here))
    ]

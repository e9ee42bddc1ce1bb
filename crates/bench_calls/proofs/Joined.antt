-- A device more of a network.
use Rattle.std.proofs.Common.{◌≡◌, ◌∙◌, ℕ, ◌+◌, ◌<◌, suc, List, [], ◌∷◌, ◌++◌, arith, sym, ap, take, map, length, get_or}
use Rattle.std.proofs.Math.Seq.{take-suc}
use Rattle.std.proofs.lemmas.List.{map-append}

-- the first of a list and the next one
take_more : {X : Type 0} (xs : List X) (k : ℕ) (x : X) → k < length xs → take k xs ++ get_or xs k x ∷ [] ≡ take (k + 1) xs
take_more xs k x l =
    let step : suc k ≡ k + 1 = omega arith in
    sym (take-suc xs k x l) ∙ ap (λ (n : ℕ). take n xs) step

-- a list that was the first of another one has the next one more
pub one_more : {X : Type 0} (xs : List X) (k : ℕ) (before after : List X) (x : X) → after ≡ before ++ x ∷ [] → before ≡ take k xs → k < length xs → x ≡ get_or xs k x
    → after ≡ take (k + 1) xs
one_more {X} xs k before after x is was l at =
    is
    ∙ ap (λ (t : List X). t ++ x ∷ []) was
    ∙ ap (λ (y : X). take k xs ++ y ∷ []) at
    ∙ take_more xs k x l

-- the same of what the first of another list are taken to
pub one_more_mapped : {X : Type 0} (f : ℕ → X) (xs : List ℕ) (k : ℕ) (before after : List X) (x : X) → after ≡ before ++ x ∷ [] → before ≡ map f (take k xs) → k < length xs → x ≡ f (get_or xs k 0)
    → after ≡ map f (take (k + 1) xs)
one_more_mapped {X} f xs k before after x is was l at =
    is
    ∙ ap (λ (t : List X). t ++ x ∷ []) was
    ∙ ap (λ (y : X). map f (take k xs) ++ y ∷ []) at
    ∙ sym (map-append f (take k xs) (get_or xs k 0 ∷ []))
    ∙ ap (λ (t : List ℕ). map f t) (take_more xs k 0 l)

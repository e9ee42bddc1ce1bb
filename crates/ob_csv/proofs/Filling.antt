-- A list that a loop fills place by place, seen through a function of its elements.
use Rattle.std.proofs.Common.{◌≡◌, ◌∙◌, ◌<◌, ◌+◌, ℕ, List, arith, get_or, length, map, refl, set, sym}
use Rattle.std.proofs.lemmas.List.{length-map, map-set}
use Rattle.std.proofs.lemmas.List.Edits.{fill_by_more}
use Rattle.std.proofs.lemmas.List.FromFn.{fill_by_all}

-- one place more
pub filled_more : {X Y : Type 0} (f : X → Y) (g : ℕ → Y) (xs : List X) (x : X) (i : ℕ) (d : Y)
    → i < length xs → f x ≡ g i → ((k : ℕ) → k < i → get_or (map f xs) k d ≡ g k)
    → (k : ℕ) → k < i + 1 → get_or (map f (set xs i x)) k d ≡ g k
filled_more f g xs x i d below same h =
    rw (map-set f xs i x) (rw same (fill_by_more g (map f xs) i d (omega (arith, length-map xs f)) h))

-- each place of a list of this length
pub filled_all : {X Y : Type 0} (f : X → Y) (xs : List X) (ys : List Y) (n : ℕ) (d : Y) → length xs ≡ n → length ys ≡ n
    → ((k : ℕ) → k < n → get_or (map f xs) k d ≡ get_or ys k d) → ys ≡ map f xs
filled_all f xs ys n d all wanted h =
    fill_by_all (λ k. get_or ys k d) ys n d wanted (λ k b. refl)
    ∙ sym (fill_by_all (λ k. get_or ys k d) (map f xs) n d (length-map xs f ∙ all) h)

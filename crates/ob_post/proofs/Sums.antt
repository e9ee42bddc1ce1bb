-- Sums over lists.
use Rattle.std.proofs.Common.{◌≡◌, ◌∙◌, sym, ap, ap₂, refl, ℕ, zero, suc, ◌+◌, Bool, cond, List, [], ◌∷◌, map, sum_by, inl, inr, zero-add, arith}
use Rattle.std.specs.List.{All, filter, range_with_len}
use Rattle.std.proofs.lemmas.Bool.{cases_Bool}
use Rattle.std.proofs.lemmas.List.Elements.{All-tail}
use Rattle.std.proofs.lemmas.List.Sums.{sum_by-cons}

pub sum_of_zeros : {X : Type 0} (xs : List X) → sum_by (λ (x : X). 0) xs ≡ 0
sum_of_zeros [] = refl
sum_of_zeros {X} (x ∷ xs) = sum_by-cons (λ (y : X). 0) x xs ∙ zero-add (sum_by (λ (y : X). 0) xs) ∙ sum_of_zeros xs

pub sum_of_added : {X : Type 0} (f g : X → ℕ) (xs : List X) → sum_by (λ x. f x + g x) xs ≡ sum_by f xs + sum_by g xs
sum_of_added f g [] = refl
sum_of_added f g (x ∷ xs) = omega (arith, sum_by-cons (λ x. f x + g x) x xs, sum_by-cons f x xs, sum_by-cons g x xs, sum_of_added f g xs)

pub sum_of_same : {X : Type 0} (f g : X → ℕ) (xs : List X) → ((x : X) → f x ≡ g x) → sum_by f xs ≡ sum_by g xs
sum_of_same f g [] h = refl
sum_of_same f g (x ∷ xs) h = sum_by-cons f x xs ∙ ap₂ (λ m n. m + n) (h x) (sum_of_same f g xs h) ∙ sym (sum_by-cons g x xs)

-- a sum over two lists, in either order
pub swap_sums : {X Y : Type 0} (f : X → Y → ℕ) (xs : List X) (ys : List Y) → sum_by (λ x. sum_by (f x) ys) xs ≡ sum_by (λ y. sum_by (λ x. f x y) xs) ys
swap_sums f [] ys = sym (sum_of_zeros ys)
swap_sums f (x ∷ xs) ys =
    sum_by-cons (λ x. sum_by (f x) ys) x xs
    ∙ ap (λ n. sum_by (f x) ys + n) (swap_sums f xs ys)
    ∙ sym (sum_of_added (f x) (λ y. sum_by (λ x. f x y) xs) ys)
    ∙ sum_of_same (λ y. f x y + sum_by (λ x. f x y) xs) (λ y. sum_by (λ x. f x y) (x ∷ xs)) ys (λ y. sym (sum_by-cons (λ x. f x y) x xs))

-- a sum over those that pass a test
pub sum_of_passing : {X : Type 0} (p : X → Bool) (f : X → ℕ) (xs : List X) → sum_by (λ x. cond (p x) (f x) 0) xs ≡ sum_by f (filter p xs)
sum_of_passing p f [] = refl
sum_of_passing p f (x ∷ xs) = sum_by-cons (λ y. cond (p y) (f y) 0) x xs ∙ elim (cases_Bool (p x)) [
  | inl t ↦ rw t (ap (λ n. f x + n) (sum_of_passing p f xs) ∙ sym (sum_by-cons f x (filter p xs)))
  | inr n ↦ rw n (omega (arith, sum_of_passing p f xs))
]

-- sums of values that are equal on a list
pub sum_where_same : {X : Type 0} (f g : X → ℕ) (xs : List X) → All (λ x. f x ≡ g x) xs → sum_by f xs ≡ sum_by g xs
sum_where_same f g [] h = refl
sum_where_same f g (x ∷ xs) h =
    sum_by-cons f x xs ∙ ap₂ (λ m n. m + n) (h 0 x (omega arith)) (sum_where_same f g xs (All-tail (λ x. f x ≡ g x) x xs h)) ∙ sym (sum_by-cons g x xs)

-- a sum over a list of results
pub sum_by-map : {X Y : Type 0} (f : Y → ℕ) (g : X → Y) (xs : List X) → sum_by f (map g xs) ≡ sum_by (λ x. f (g x)) xs
sum_by-map f g [] = refl
sum_by-map f g (x ∷ xs) = sum_by-cons f (g x) (map g xs) ∙ ap (λ n. f (g x) + n) (sum_by-map f g xs) ∙ sym (sum_by-cons (λ y. f (g y)) x xs)

-- a sum over numbers from one further on
pub sum_by-range_more : (f : ℕ → ℕ) (a n : ℕ) → sum_by f (range_with_len (a + 1) n) ≡ sum_by (λ i. f (i + 1)) (range_with_len a n)
sum_by-range_more f a zero = refl
sum_by-range_more f a (suc n) =
    sum_by-cons f (a + 1) (range_with_len (a + 1 + 1) n) ∙ ap (λ m. f (a + 1) + m) (sum_by-range_more f (a + 1) n) ∙ sym (sum_by-cons (λ i. f (i + 1)) a (range_with_len (a + 1) n))

-- Sums over what is found number by number, where one number adds to the sum.
use Rattle.std.proofs.Common.{◌≡◌, ◌∙◌, ap, ap₂, refl, sym, ℕ, zero, suc, ◌+◌, ◌-◌, ◌<◌, ◌≤◌, ◌&&◌, Bool, true, false, cond, List, [], ◌∷◌, map, get_or, sum_by, count_by, Option, Some, None, inl, inr, arith}
use Rattle.std.specs.List.{All, cons_option, filter, filter_map, range_with_len}
use Rattle.std.specs.Option.{option_map_or}
use Rattle.std.proofs.lemmas.Bool.{cases_Bool, cases_eq, cases_lt, and_right}
use Rattle.std.proofs.Math.Bool.{and-true}
use Rattle.std.proofs.lemmas.List.FromFn.{length-range_with_len, get_or-range_with_len}
use Rattle.std.proofs.lemmas.List.Sums.{sum_by-cons}
use Rattle.ob_post.proofs.Sums.{sum_of_same, sum_of_zeros, sum_where_same, swap_sums}

-- ---- one number of a range
-- no number adds
pub none_adds : (f : ℕ → ℕ) (a n : ℕ) → ((j : ℕ) → a ≤ j → j < a + n → f j ≡ 0) → sum_by f (range_with_len a n) ≡ 0
none_adds f a zero zeros = refl
none_adds f a (suc n) zeros =
    sum_by-cons f a (range_with_len (a + 1) n)
    ∙ ap₂ (λ (x y : ℕ). x + y) (zeros a (omega arith) (omega arith)) (none_adds f (a + 1) n (λ j low high. zeros j (omega (arith, low)) (omega (arith, high))))

-- no number but k adds
pub one_adds : (f : ℕ → ℕ) (a n k : ℕ) → a ≤ k → k < a + n → ((j : ℕ) → a ≤ j → j < a + n → (j ≡ k → ⊥) → f j ≡ 0) → sum_by f (range_with_len a n) ≡ f k
one_adds f a zero k low high others = absurd (omega (arith, low, high))
one_adds f a (suc n) k low high others = sum_by-cons f a (range_with_len (a + 1) n) ∙ elim (cases_eq a k) [
  | inl same ↦
      let rest = none_adds f (a + 1) n (λ j l h. others j (omega (arith, l)) (omega (arith, h)) (λ e. omega (arith, e, l, same))) in
      let here : f a ≡ f k = ap f same in
      omega (arith, rest, here)
  | inr apart ↦
      let rest = one_adds f (a + 1) n k (omega (arith, low, apart)) (omega (arith, high)) (λ j l h. others j (omega (arith, l)) (omega (arith, h))) in
      let here : f a ≡ 0 = others a (omega arith) (omega arith) apart in
      omega (arith, rest, here)
]

-- what holds of each number of a range
pub each_number : (P : ℕ → Type 0) (a n : ℕ) → ((s : ℕ) → a ≤ s → s < a + n → P s) → All P (range_with_len a n)
each_number P a n h = λ i d l.
    let long = length-range_with_len a n in
    let at = get_or-range_with_len a n i d (omega (arith, l, long)) in
    h (get_or (range_with_len a n) i d) (omega (arith, at)) (omega (arith, at, l, long))

-- ---- what is found number by number
-- values that are the same of what is found
pub found_same : {X : Type 0} (f g : X → ℕ) (o : Option X) → ((x : X) → f x ≡ g x) → option_map_or f o 0 ≡ option_map_or g o 0
found_same f g None same = refl
found_same f g (Some x) same = same x

more_found : {X : Type 0} (g : X → ℕ) (o : Option X) (xs : List X) → sum_by g (cons_option o xs) ≡ option_map_or g o 0 + sum_by g xs
more_found g None xs = omega arith
more_found g (Some x) xs = sum_by-cons g x xs

pub sum_of_found : {X : Type 0} (h : ℕ → Option X) (g : X → ℕ) (ns : List ℕ) → sum_by g (filter_map h ns) ≡ sum_by (λ n. option_map_or g (h n) 0) ns
sum_of_found h g [] = refl
sum_of_found h g (n ∷ ns) =
    more_found g (h n) (filter_map h ns) ∙ ap (λ (m : ℕ). option_map_or g (h n) 0 + m) (sum_of_found h g ns) ∙ sym (sum_by-cons (λ m. option_map_or g (h m) 0) n ns)

module _ {X Y : Type 0} (h : ℕ → Option X) (g : X → Y → ℕ) (whole : Y → ℕ) where
  -- what a number adds at y
  abbrev pub share : ℕ → Y → ℕ
  share n y = option_map_or (λ x. g x y) (h n) 0

  shares : (o : Option X) (ys : List Y) → option_map_or (λ x. sum_by (g x) ys) o 0 ≡ sum_by (λ y. option_map_or (λ x. g x y) o 0) ys
  shares None ys = sym (sum_of_zeros ys)
  shares (Some x) ys = refl

  -- where the shares at each y are its whole, the sums of what is found are that of all
  pub parted_at : (ns : List ℕ) (ys : List Y) → All (λ y. sum_by (λ n. share n y) ns ≡ whole y) ys → sum_by (λ n. option_map_or (λ x. sum_by (g x) ys) (h n) 0) ns ≡ sum_by whole ys
  parted_at ns ys each =
      sum_of_same (λ n. option_map_or (λ x. sum_by (g x) ys) (h n) 0) (λ n. sum_by (share n) ys) ns (λ n. shares (h n) ys)
      ∙ swap_sums share ns ys
      ∙ sum_where_same (λ y. sum_by (λ n. share n y) ns) whole ys each

  pub parted : (ns : List ℕ) (ys : List Y) → All (λ y. sum_by (λ n. share n y) ns ≡ whole y) ys → sum_by (λ x. sum_by (g x) ys) (filter_map h ns) ≡ sum_by whole ys
  parted ns ys each = sum_of_found h (λ x. sum_by (g x) ys) ns ∙ parted_at ns ys each

-- ---- a filter of a map of a filter
pub over_numbers : {X : Type 0} (f : ℕ → X) (starts : ℕ → Bool) (p : X → Bool) (w : X → ℕ) (ns : List ℕ)
    → sum_by w (filter p (map f (filter starts ns))) ≡ sum_by (λ s. cond (starts s && p (f s)) (w (f s)) 0) ns
over_numbers f starts p w [] = refl
over_numbers f starts p w (s ∷ ns) =
    let rest = over_numbers f starts p w ns in
    let one : sum_by w (filter p (map f (filter starts (s ∷ ns)))) ≡ cond (starts s && p (f s)) (w (f s)) 0 + sum_by w (filter p (map f (filter starts ns))) =
    elim (cases_Bool (starts s)) [
      | inl t ↦ rw t (elim (cases_Bool (p (f s))) [
        | inl has ↦ rw has (sum_by-cons w (f s) (filter p (map f (filter starts ns))))
        | inr off ↦ rw off (omega arith)
      ])
      | inr f ↦ rw f (omega arith)
    ] in
    one ∙ ap (λ (m : ℕ). cond (starts s && p (f s)) (w (f s)) 0 + m) rest ∙ sym (sum_by-cons (λ t. cond (starts t && p (f t)) (w (f t)) 0) s ns)

-- ---- the part of a range
-- numbers from a up to b that pass a test are those of the range that pass it and lie there
pub count_within : (p q : ℕ → Bool) (s n a b : ℕ) → s ≤ a → a ≤ b → b ≤ s + n
    → ((t : ℕ) → a ≤ t → t < b → q t ≡ true) → ((t : ℕ) → s ≤ t → t < a → q t ≡ false) → ((t : ℕ) → b ≤ t → q t ≡ false)
    → count_by p (range_with_len a (b - a)) ≡ count_by (λ t. p t && q t) (range_with_len s n)
count_within p q s zero a b low some high inside before past =
    let none : b - a ≡ 0 = omega (arith, low, some, high) in
    ap (λ (m : ℕ). count_by p (range_with_len a m)) none
count_within p q s (suc n) a b low some high inside before past =
    let all = sum_by-cons (λ t. cond (p t && q t) 1 0) s (range_with_len (s + 1) n) in
    elim (cases_lt s a) [
      | inl less ↦
          let rest = count_within p q (s + 1) n a b (omega (arith, less)) some (omega (arith, high)) inside (λ t l h. before t (omega (arith, l)) h) past in
          let out : cond {A = ℕ} (p s && q s) 1 0 ≡ 0 = ap (λ (c : Bool). cond {A = ℕ} c 1 0) (and_right (p s) (q s) (before s (omega arith) less)) in
          omega (arith, rest, out, all)
      | inr from ↦ elim (cases_lt s b) [
        | inl less ↦
            let here : a ≡ s = omega (arith, low, from) in
            let long : b - a ≡ suc (b - (a + 1)) = omega (arith, less, here) in
            let rest = count_within p q (s + 1) n (a + 1) b (omega (arith, here)) (omega (arith, less, here)) (omega (arith, high)) (λ t l h. inside t (omega (arith, l)) h) (λ t l h. absurd (omega (arith, l, h, here))) past in
            let first : cond {A = ℕ} (p a) 1 0 ≡ cond {A = ℕ} (p s && q s) 1 0 =
            ap (λ (t : ℕ). cond {A = ℕ} (p t) 1 0) here ∙ ap (λ (c : Bool). cond {A = ℕ} c 1 0) (sym (and-true (p s))) ∙ ap (λ (c : Bool). cond {A = ℕ} (p s && c) 1 0) (sym (inside s from less)) in
            let each = sum_by-cons (λ t. cond (p t) 1 0) a (range_with_len (a + 1) (b - (a + 1))) in
            ap (λ (m : ℕ). count_by p (range_with_len a m)) long ∙ omega (arith, rest, first, all, each)
        | inr over ↦
            let none : b - a ≡ 0 = omega (arith, low, some, over) in
            ap (λ (m : ℕ). count_by p (range_with_len a m)) none
            ∙ sym (none_adds (λ t. cond (p t && q t) 1 0) s (suc n) (λ j l h. ap (λ (c : Bool). cond {A = ℕ} c 1 0) (and_right (p j) (q j) (past j (omega (arith, l, over))))))
      ]
    ]

-- all numbers
pub count_all : (a n : ℕ) → count_by (λ t. true) (range_with_len a n) ≡ n
count_all a zero = refl
count_all a (suc n) = let rest = count_all (a + 1) n in let all = sum_by-cons (λ t. 1) a (range_with_len (a + 1) n) in omega (arith, rest, all)

-- The first and the last of the seconds that pass a test.
use Rattle.std.proofs.Common.{◌≡◌, ℕ, zero, suc, ◌+◌, ◌-◌, ◌<◌, ◌≤◌, Bool, true, false, cond, min, List, [], ◌∷◌, Option, Some, None, length, slice_get, refl, ◌∙◌, ap, arith, inl, inr}
use Rattle.std.specs.List.{filter, range_with_len}
use Rattle.std.specs.Option.{option_map_or}
use Rattle.std.proofs.lemmas.Bool.{cases_Bool, cases_eq, cond-true, cond-false}
use Rattle.std.proofs.lemmas.Option.{slice_get_within}
use Rattle.ob_base.specs.declared.life.Life.{Life}
use Rattle.ob_sweep.specs.Lives.{Bounds, differ_at, first_differing, last_differing, last_lived}

-- none passes
pub none_of : (p : ℕ → Bool) (a n : ℕ) → ((s : ℕ) → a ≤ s → s < a + n → p s ≡ false) → filter p (range_with_len a n) ≡ []
none_of p a zero none = refl
none_of p a (suc n) none =
    cond-false (p a) (a ∷ filter p (range_with_len (a + 1) n)) (filter p (range_with_len (a + 1) n)) (none a (omega arith) (omega arith))
    ∙ none_of p (a + 1) n (λ s l h. none s (omega arith) (omega arith))

-- the first
pub first_of : (p : ℕ → Bool) (a n c : ℕ) → a ≤ c → c < a + n → p c ≡ true → ((s : ℕ) → a ≤ s → s < c → p s ≡ false) → slice_get (filter p (range_with_len a n)) 0 ≡ Some c
first_of p a zero c l h here before = absurd (omega arith)
first_of p a (suc n) c l h here before =
    let rest : List ℕ = filter p (range_with_len (a + 1) n) in
    elim (cases_eq a c) as (λ _. slice_get (cond (p a) (a ∷ rest) rest) 0 ≡ Some c) [
      | inl e ↦ ap (λ q. slice_get q 0) (cond-true (p a) (a ∷ rest) rest (ap p e ∙ here)) ∙ ap Some e
      | inr apart ↦
          ap (λ q. slice_get q 0) (cond-false (p a) (a ∷ rest) rest (before a (omega arith) (omega arith)))
          ∙ first_of p (a + 1) n c (omega arith) (omega arith) here (λ s m k. before s (omega arith) k)
    ]

-- the last of a longer list
last_after : (x z : ℕ) (xs : List ℕ) → slice_get xs (length xs - 1) ≡ Some z → slice_get (x ∷ xs) (length (x ∷ xs) - 1) ≡ Some z
last_after x z [] e = absurd (let l = slice_get_within [] 0 z e in omega (arith, l))
last_after x z (y ∷ ys) e =
    let long : length (x ∷ y ∷ ys) - 1 ≡ suc (length (y ∷ ys) - 1) = omega arith in
    ap (slice_get (x ∷ y ∷ ys)) long ∙ e

pub last_of : (p : ℕ → Bool) (a n z : ℕ) → a ≤ z → z < a + n → p z ≡ true → ((s : ℕ) → z < s → s < a + n → p s ≡ false)
    → slice_get (filter p (range_with_len a n)) (length (filter p (range_with_len a n)) - 1) ≡ Some z
last_of p a zero z l h here behind = absurd (omega arith)
last_of p a (suc n) z l h here behind =
    let rest : List ℕ = filter p (range_with_len (a + 1) n) in
    elim (cases_eq a z) as (λ _. slice_get (cond (p a) (a ∷ rest) rest) (length (cond (p a) (a ∷ rest) rest) - 1) ≡ Some z) [
      | inl e ↦
          let alone : cond (p a) (a ∷ rest) rest ≡ a ∷ [] =
          cond-true (p a) (a ∷ rest) rest (ap p e ∙ here) ∙ ap (λ q. a ∷ q) (none_of p (a + 1) n (λ s m k. behind s (omega arith) (omega arith))) in
          ap (λ q. slice_get q (length q - 1)) alone ∙ ap Some e
      | inr apart ↦
          let more : slice_get rest (length rest - 1) ≡ Some z = last_of p (a + 1) n z (omega arith) (omega arith) here (λ s m k. behind s m (omega arith)) in
          elim (cases_Bool (p a)) as (λ _. slice_get (cond (p a) (a ∷ rest) rest) (length (cond (p a) (a ∷ rest) rest) - 1) ≡ Some z) [
            | inl t ↦ ap (λ q. slice_get q (length q - 1)) (cond-true (p a) (a ∷ rest) rest t) ∙ last_after a z rest more
            | inr f ↦ ap (λ q. slice_get q (length q - 1)) (cond-false (p a) (a ∷ rest) rest f) ∙ more
          ]
    ]

-- the seconds that exactly one of two lives holds
module _ (old new : Life) (a b : ℕ) where
  pub none_differ : a < b → ((s : ℕ) → a ≤ s → s < b → differ_at old new s ≡ false) → first_differing old new a b ≡ None
  none_differ some alike =
      ap (λ xs. slice_get xs 0) (none_of (differ_at old new) a (b - a) (λ s l h. alike s l (omega arith)))

  pub first_is : (c d : ℕ) → Bounds (differ_at old new) a b c d → first_differing old new a b ≡ Some c
  first_is c d x =
      let l : a ≤ c = x.from_a in
      let m : c < d = x.some in
      let h : d ≤ b = x.to_b in
      first_of (differ_at old new) a (b - a) c l (omega arith) x.first x.before

  last_is : (c d : ℕ) → Bounds (differ_at old new) a b c d → last_differing old new a b ≡ Some (d - 1)
  last_is c d x =
      let l : a ≤ c = x.from_a in
      let m : c < d = x.some in
      let h : d ≤ b = x.to_b in
      last_of (differ_at old new) a (b - a) (d - 1) (omega arith) (omega arith) x.last (λ s k n. x.behind s (omega arith) (omega arith))

  -- the window's last second
  pub lived_is : (c d : ℕ) → Bounds (differ_at old new) a b c d → last_lived old new a b ≡ min d (b - 1)
  lived_is c d x =
      let m : c < d = x.some in
      let whole : d - 1 + 1 ≡ d = omega arith in
      ap (λ (o : Option ℕ). option_map_or (λ s. min (s + 1) (b - 1)) o a) (last_is c d x) ∙ ap (λ s. min s (b - 1)) whole

-- How many numbers of a range pass a test before one that does not.
use Rattle.std.proofs.Common.{◌≡◌, ℕ, zero, suc, ◌+◌, ◌<◌, ◌≤◌, Bool, true, false, refl, ap, ◌∙◌, inl, inr, arith}
use Rattle.std.specs.List.{prefix_len, range_with_len}
use Rattle.std.proofs.lemmas.Bool.{cases_lt}

-- the test fails at one of them
pub stops : (p : ℕ → Bool) (n m s : ℕ) → n < m → ((t : ℕ) → s ≤ t → t < s + n → p t ≡ true) → p (s + n) ≡ false → prefix_len p (range_with_len s m) ≡ n
stops p zero zero s l h off = absurd (omega (arith, l))
stops p zero (suc m) s l h off = let here : p s ≡ false = ap p (omega arith) ∙ off in rw here refl
stops p (suc n) zero s l h off = absurd (omega (arith, l))
stops p (suc n) (suc m) s l h off =
    let rest = stops p n m (s + 1) (omega (arith, l)) (λ t low high. h t (omega (arith, low)) (omega (arith, high))) (ap p (omega arith) ∙ off) in
    rw (h s (omega arith) (omega arith)) (omega (arith, rest))

-- one number more passes
pub one_more : (p : ℕ → Bool) (s n : ℕ) → ((t : ℕ) → s ≤ t → t < n → p t ≡ true) → p n ≡ true → (t : ℕ) → s ≤ t → t < n + 1 → p t ≡ true
one_more p s n h here t low high = elim (cases_lt t n) [
  | inl less ↦ h t low less
  | inr more ↦ ap p (omega (arith, more, high)) ∙ here
]

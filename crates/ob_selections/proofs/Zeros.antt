-- Places of zeros.
use Rattle.std.proofs.Common.{◌≡◌, ◌≤◌, ℕ, zero, suc, replicate, refl, slice_index, arith}

pub zero_at : (n j : ℕ) → slice_index (replicate n 0) j ≡ 0
zero_at zero j = refl
zero_at (suc n) zero = refl
zero_at (suc n) (suc j) = zero_at n j

pub zero_at_most : (n j b : ℕ) → slice_index (replicate n 0) j ≤ b
zero_at_most n j b = let none = zero_at n j in omega (arith, none)

-- Bounds of amounts that rows move.
use Rattle.std.proofs.Common.{ℕ, ◌+◌, ◌≤◌, Bool, true, false, cond, List, [], ◌∷◌, sum_by, ℤ, pos, ◌+ℤ◌, arith}
use Rattle.std.specs.Int.RustNames.{unsigned_abs}
use Rattle.std.proofs.lemmas.Int.{ints}
use Rattle.std.proofs.lemmas.List.Sums.{sum_by-cons}
use Rattle.ob_post.specs.declared.Dim.{Dim}
use Rattle.ob_post.specs.declared.Moved.{Moved}
use Rattle.ob_post.specs.Moved.{is_under, delta_of}
use Rattle.ob_post.proofs.Deltas.{delta_under}

-- all deltas, each without its sign
abbrev pub size_of : List Moved → ℕ
size_of moved = sum_by (λ (m : Moved). unsigned_abs m.delta) moved

abs-add : (x y : ℤ) → unsigned_abs (x +ℤ y) ≤ unsigned_abs x + unsigned_abs y
abs-add x y = omega (arith, ints)

abs_part : (b : Bool) (z : ℤ) → unsigned_abs (cond b z (pos 0)) ≤ unsigned_abs z
abs_part true z = omega arith
abs_part false z = omega arith

pub delta_of-le : (moved : List Moved) (dim : Dim) (key : ℕ) → unsigned_abs (delta_of moved dim key) ≤ size_of moved
delta_of-le [] dim key = omega arith
delta_of-le (m ∷ ms) dim key =
    omega
    (arith, abs-add (delta_under dim key m) (delta_of ms dim key), abs_part (is_under dim key m) m.delta, delta_of-le ms dim key, sum_by-cons (λ (n : Moved). unsigned_abs n.delta) m ms)

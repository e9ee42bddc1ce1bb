-- How many keys there are.
use Rattle.std.proofs.Common.{ℕ, ◌≤◌, length, arith}
use Rattle.std.proofs.lemmas.List.FromFn.{length-range_with_len}
use Rattle.ob_post.specs.declared.Dim.{Dim}
use Rattle.ob_post.specs.declared.Dim.TheVariants.{Cause, Feeder, Day}
use Rattle.ob_post.specs.Keys.{keys}

pub few_keys : (days : ℕ) (dim : Dim) → days ≤ 366 → length (keys days dim) ≤ 366
unfolding keys
few_keys days Cause h = omega (arith, length-range_with_len 0 64)
few_keys days Feeder h = omega (arith, length-range_with_len 1 255)
few_keys days Day h = omega (arith, length-range_with_len 0 days)

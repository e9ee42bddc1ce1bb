-- What few small rows come to fits.
use Rattle.std.proofs.Common.{ℕ, ◌≤◌, List, length, ◌-ℤ◌, FitsSigned, arith}
use Rattle.std.specs.Int.{w64}
use Rattle.std.specs.Int.RustNames.{unsigned_abs}
use Rattle.std.specs.List.{All}
use Rattle.std.proofs.lemmas.Int.{ints}
use Rattle.std.proofs.lemmas.List.Sums.{sum_by-le}
use Rattle.ob_post.specs.declared.Dim.{Dim}
use Rattle.ob_post.specs.declared.Moved.{Moved}
use Rattle.ob_post.specs.Moved.{delta_of}
use Rattle.ob_index_tests.specs.Small.{IsSmall}
use Rattle.ob_index_tests.proofs.Bounds.{size_of, delta_of-le}

few_small : (moved : List Moved) → length moved ≤ 100 → All IsSmall moved → size_of moved ≤ 1000000
few_small moved few small = omega (arith, sum_by-le (λ (m : Moved). unsigned_abs m.delta) 10000 moved (λ i d l. (small i d l).size))

pub small_moves_fit : (taken given : List Moved) → length taken ≤ 100 → length given ≤ 100 → All IsSmall taken → All IsSmall given → (dim : Dim) (key : ℕ)
    → FitsSigned w64 (delta_of given dim key -ℤ delta_of taken dim key)
small_moves_fit taken given few_taken few_given taken_small given_small dim key =
    omega (arith, ints, delta_of-le taken dim key, delta_of-le given dim key, few_small taken few_taken taken_small, few_small given few_given given_small)

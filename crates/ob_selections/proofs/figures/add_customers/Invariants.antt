use Rattle.std.proofs.Common.{◌≡◌, ◌<◌, ◌+◌, ◌&&◌, ℕ, if◌then◌else◌, length, nat_le, nat_lt, slice_index}
use Rattle.ob_selections.proofs.figures.add_customers.Given as goal

abbrev pub invariant-loop-place : goal.invariant-loop-place
invariant-loop-place l = record {
  places : length l.places ≡ length l.fn.places;
  each : (k : ℕ) → k < 10 → slice_index l.places k ≡ slice_index l.fn.places k + (if nat_lt k l.place && nat_le (1 + k) l.sustained then l.customers else 0);
}

use Rattle.std.proofs.Common.{length, ◌-◌, ◌≤◌, take}
use Rattle.std.specs.List.{All}
use Rattle.ob_sweep.proofs.difference.place_behind.Given as goal

abbrev pub invariant-loop-place : goal.invariant-loop-place
invariant-loop-place l = record {
  later : l.from ≤ l.place;
  within : l.place ≤ length l.entries;
  taken : All (λ e. e.second ≤ l.second) (take l.place l.entries);
}

abbrev pub decreases-loop-place : goal.decreases-loop-place
decreases-loop-place l = length l.entries - l.place

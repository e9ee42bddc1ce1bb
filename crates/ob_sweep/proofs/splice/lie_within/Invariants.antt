use Rattle.std.proofs.Common.{◌≤◌, take}
use Rattle.std.specs.List.{All}
use Rattle.ob_sweep.proofs.splice.lie_within.Given as goal

abbrev pub invariant-loop-run : goal.invariant-loop-run
invariant-loop-run l = All (λ r. (l.first ≤ r.since) × (r.until ≤ l.end)) (take l.run-index l.runs)

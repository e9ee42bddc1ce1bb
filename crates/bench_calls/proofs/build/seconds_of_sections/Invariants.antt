use Rattle.std.proofs.Common.{◌≡◌, ◌≤◌, ◌-◌, map}
use Rattle.std.specs.Prelude.{sum}
use Rattle.std.specs.List.{range_with_len}
use Rattle.ob_sweep.specs.Timeline.{runs_at}
use Rattle.bench_calls.specs.Builds.{seconds_in_runs}
use Rattle.bench_calls.proofs.build.seconds_of_sections.Given as goal

abbrev pub invariant-loop-section : goal.invariant-loop-section
invariant-loop-section g l = record {
  within : l.section - 1 ≤ l.nodes - 1;
  sum : l.sum ≡ sum (map (λ v. seconds_in_runs (runs_at (g.T.Timeline.content l.timeline) v)) (range_with_len 1 (l.section - 1)));
}

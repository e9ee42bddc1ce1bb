use Rattle.std.proofs.Common.{◌≡◌, length, take}
use Rattle.bench_calls.specs.Builds.{case_of}
use Rattle.bench_calls.specs.Lives.{HasRuns, with_lives}
use Rattle.bench_calls.proofs.lives.live.Given as goal

abbrev pub invariant-loop-place : goal.invariant-loop-place
invariant-loop-place l = record {
  places : length l.searches ≡ length l.lived;
  first : l.made.year ≡ l.initial.made.year;
  case : case_of l.made.net.network l.made.sheet.entries l.made.year
      ≡ with_lives (case_of l.initial.made.net.network l.initial.made.sheet.entries l.initial.made.year) (take l.place l.lived) (take l.place l.since) (take l.place l.until);
  runs : HasRuns (case_of l.made.net.network l.made.sheet.entries l.made.year) l.timeline;
}

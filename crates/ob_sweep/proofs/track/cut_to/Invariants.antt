use Rattle.std.proofs.Common.{◌≡◌, ◌++◌, drop}
use Rattle.ob_sweep.specs.Tracks.{cut_to}
use Rattle.ob_sweep.proofs.track.cut_to.Given as goal

abbrev pub invariant-loop-run : goal.invariant-loop-run
invariant-loop-run l = l.part.items ++ cut_to l.section l.first l.end (drop l.run-index l.runs) ≡ cut_to l.section l.first l.end l.runs

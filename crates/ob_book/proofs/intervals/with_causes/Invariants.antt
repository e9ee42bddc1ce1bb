use Rattle.std.proofs.Common.{◌≡◌, map, take}
use Rattle.ob_book.specs.Intervals.{interval_then}
use Rattle.ob_book.proofs.intervals.with_causes.Given as goal

abbrev pub invariant-loop-run : goal.invariant-loop-run
invariant-loop-run l = l.intervals.items ≡ map (interval_then l.sheet.entries l.said) (take l.run-index l.runs)

use Rattle.std.proofs.Common.{take}
use Rattle.std.specs.List.{All}
use Rattle.ob_index_tests.specs.Small.{IsSmall}
use Rattle.ob_index_tests.proofs.postings.are_small.Given as goal

abbrev pub invariant-loop-row : goal.invariant-loop-row
invariant-loop-row l = All IsSmall (take l.row-index l.moved)

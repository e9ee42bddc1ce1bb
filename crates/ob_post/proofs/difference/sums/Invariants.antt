use Rattle.ob_post.proofs.DifferingRows.{AreSums}
use Rattle.ob_post.proofs.difference.sums.Given as goal

abbrev pub invariant-loop-row : goal.invariant-loop-row
invariant-loop-row l = AreSums l.rows l.sums.items l.row-index

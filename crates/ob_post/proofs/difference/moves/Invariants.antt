use Rattle.ob_post.proofs.DifferingRows.{AreMoves}
use Rattle.ob_post.proofs.difference.moves.Given as goal

abbrev pub invariant-loop-place : goal.invariant-loop-place
invariant-loop-place l = AreMoves l.fn.taken l.fn.given l.moved.items l.place

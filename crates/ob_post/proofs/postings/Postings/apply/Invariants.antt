use Rattle.ob_post.proofs.Placed.{HaveMoved}
use Rattle.ob_post.proofs.postings.Postings.apply.Given as goal

abbrev pub invariant-loop-row : goal.invariant-loop-row
invariant-loop-row l = HaveMoved l.moved l.initial.self-inside.amounts.items l.self-inside.amounts.items l.row-index

-- The bytes up to here were scanned.
use Rattle.ob_csv.proofs.WholeLaws.{Scanned}
use Rattle.ob_csv.proofs.whole.last_row_end.Given as goal

abbrev pub invariant-loop-at : goal.invariant-loop-at
invariant-loop-at l = Scanned l.text l.place l.at l.end

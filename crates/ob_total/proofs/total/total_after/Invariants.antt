-- The rows that are left say of the world so far what all of them said at first.
use Rattle.ob_csv.specs.RowReading.{rows_left}
use Rattle.ob_total.specs.Outcomes.{SaysOn}
use Rattle.ob_total.specs.Totals.{total_from}
use Rattle.ob_total.proofs.total.total_after.Given as goal

abbrev pub invariant-loop-number : goal.invariant-loop-number
invariant-loop-number g l =
    SaysOn (total_from 2 l.fn.world) (total_from l.number l.world) (rows_left g.R.Read.remaining l.fn.rows) (rows_left g.R.Read.remaining l.rows)

-- The rows before this one, behind the header, were taken.
use Rattle.ob_csv.specs.RowReading.{rows_left}
use Rattle.ob_import.proofs.Importing.{SoFar}
use Rattle.ob_import.proofs.rows.import_rows.Given as goal

abbrev pub invariant-loop-number : goal.invariant-loop-number
invariant-loop-number g l =
    SoFar l.fn.keeper l.keeper (rows_left g.R.Read.remaining l.initial.rows) (rows_left g.R.Read.remaining l.rows) l.tally.added l.tally.again l.number

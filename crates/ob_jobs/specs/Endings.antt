-- How a job ends, for the status of the program.
use Rattle.std.specs.Prelude.{⊤, ℕ, Option, Some, None, Result, Ok, Err}
use Rattle.ob_base.specs.declared.stop.Refusal.{Refusal}
use Rattle.ob_base.specs.declared.stop.Stop.{Stop}
use Rattle.ob_base.specs.declared.stop.Stop.TheVariants.{Refused}
use Rattle.ob_sql_rows.specs.declared.table.Table.{Table}
use Rattle.ob_import.specs.declared.report.ImportReport.{ImportReport}
use Rattle.ob_cli.specs.declared.status.Unfinished.{Unfinished}
use Rattle.ob_cli.specs.declared.status.Unfinished.TheVariants.{Stopped, Differs}

-- a job that is done or stopped
abbrev pub job_end : {X : Type 0} → Result X Stop → Result ⊤ Unfinished
job_end (Ok done) = Ok tt
job_end (Err stop) = Err (Stopped stop None)

-- the row that stopped an import
abbrev pub row_end : Option (ℕ × Refusal) → Result ⊤ Unfinished
row_end None = Ok tt
row_end (Some row) = Err (Stopped (Refused row.1) (Some row.0))

-- an import, which may have stopped at a row
abbrev pub import_end : Result ImportReport Stop → Result ⊤ Unfinished
import_end (Ok report) = row_end report.stopped
import_end (Err stop) = Err (Stopped stop None)

-- what an audit found
abbrev pub found_end : Option Table → Result ⊤ Unfinished
found_end None = Ok tt
found_end (Some table) = Err Differs

-- an audit
abbrev pub audit_end : Result (Option Table) Stop → Result ⊤ Unfinished
audit_end (Ok found) = found_end found
audit_end (Err stop) = Err (Stopped stop None)

-- Which book an import makes of one, by what it told.
use Rattle.std.specs.Prelude.{◌≡◌, ◌⊎◌, ℕ, ◌+◌, List, [], Option, Result, Ok, Err, unwrap_or}
use Rattle.ob_base.specs.declared.stop.Fault.{Fault}
use Rattle.ob_base.specs.declared.stop.Fault.TheVariants.{OutOfMemory, Store, Reopen, Input, Output}
use Rattle.ob_csv.specs.Rows.{Fields}
use Rattle.ob_book.specs.Acts.{ActState, Referenced, act}
use Rattle.ob_import.specs.Imports.{Begins, Imports, after_header}
use Rattle.ob_import.specs.Reports.{AreRows, IsNext, import_as}
use Rattle.ob_import.specs.declared.report.ImportReport.{ImportReport}
use Rattle.ob_import.specs.declared.report.ImportFault.{ImportFault}

-- how an import ended
abbrev pub Ended : Type 0
Ended = Result ImportReport ImportFault

-- how many rows it counts
abbrev pub counted : Ended → ℕ
counted (Ok report) = report.added + report.again
counted (Err e) = e.added + e.again

-- the rows after the header of a text, where there is one
abbrev pub body_of : List Fields → List Fields
body_of rows = unwrap_or (after_header rows) []

-- What a fault leaves: the first rows, so many, were taken. After one of the store that may be, or the command of the next row
-- with them.
abbrev pub BreaksOff : ActState → List Fields → Fault → ℕ → ℕ → ActState → Type 0
BreaksOff b rows OutOfMemory added again x = (later : List Fields) × Begins b x rows later added again
BreaksOff b rows Input added again x = (later : List Fields) × Begins b x rows later added again
BreaksOff b rows Store added again x =
    (c : ActState) × (later : List Fields) × Begins b c rows later added again
    × ((x ≡ c) ⊎ ((a : Referenced) × IsNext later a × (x ≡ act c a)))
BreaksOff b rows Reopen added again x = ⊥
BreaksOff b rows Output added again x = ⊥

-- what an import of the rows of a text, its header among them, that ended so may have made of a book
abbrev pub Makes : ActState → List Fields → Ended → ActState → Type 0
Makes b rows (Ok report) x = Imports b rows (import_as x report)
Makes b rows (Err e) x = BreaksOff b (body_of rows) e.fault e.added e.again x

-- the same of known rows; where they aren't known, of some
abbrev pub MakesOf : ActState → Option (List Fields) → Ended → ActState → Type 0
MakesOf b known ended x = (rows : List Fields) × AreRows known rows × Makes b rows ended x

-- What a clause sees of a reader of rows.
use Rattle.std.specs.Prelude.{ℕ, Bool, List, Option}
use Rattle.csv.specs.Reading.{has_failed}
use Rattle.ob_csv.specs.CsvSetup.{rows_in}
use Rattle.ob_csv.specs.Rows.{Fields}
use Rattle.ob_csv.specs.declared.reader.RowReader.{RowReader}

-- the rows that are left, where the bytes are known
abbrev pub rows_left : {R : Type 0} → (R → Option (List ℕ)) → RowReader R → Option (List Fields)
rows_left remaining reader = rows_in remaining reader.records

-- whether a read failed, so that the reader gives no further row
abbrev pub has_stopped : {R : Type 0} → RowReader R → Bool
has_stopped reader = has_failed reader.records

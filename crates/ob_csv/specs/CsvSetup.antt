-- How a reader of rows has `csv` set up.
use Rattle.std.specs.Prelude.{◌≡◌, ◌||◌, ◌&&◌, not, Bool, true, false, ℕ, List, Option, Some, None, option_map, if◌then◌else◌}
use Rattle.csv.specs.Machine.{ends_at_end}
use Rattle.csv.specs.Reading.{default_config, has_failed, is_flexible, names_headers, reader_config, reader_headers, reader_state, reader_trim, source_of, took_first}
use Rattle.csv.specs.declared.parser.State.{State}
use Rattle.csv.specs.declared.reader.Reader.{Reader}
use Rattle.csv.specs.declared.reader.Trim.TheVariants as trim
use Rattle.ob_csv.specs.Rows.{Fields, rows_from}

-- whether there is nothing
abbrev pub is_absent : {A : Type 0} → Option A → Bool
is_absent None = true
is_absent (Some x) = false

-- the next read gives one record: there is no header row that `csv` keeps to itself
abbrev pub reads_one : {R : Type 0} → Reader R → Bool
reads_one records = took_first records || (not (names_headers records) && is_absent (reader_headers records))

-- the reader reads records of any length by `csv`'s defaults, each as it stands
pub record ReadsRows {R : Type 0} (records : Reader R) : Type 0 where
  pub config : reader_config records ≡ default_config
  pub plain : reader_trim records ≡ trim.None
  pub flexible : is_flexible records ≡ true
  pub ready : reads_one records ≡ true

-- a reader that has not failed reads so
abbrev pub ReadsUnlessFailed : {R : Type 0} → Reader R → Type 0
ReadsUnlessFailed records = has_failed records ≡ false → ReadsRows records

-- the rows that known bytes have from a state between records on
abbrev pub rows_known : State → Option (List ℕ) → Option (List Fields)
rows_known state bytes = if ends_at_end state then None else option_map (rows_from state) bytes

-- the rows that a reader has left, where its bytes are known
abbrev pub rows_in : {R : Type 0} → (R → Option (List ℕ)) → Reader R → Option (List Fields)
rows_in remaining records = rows_known (reader_state records) (source_of remaining records)

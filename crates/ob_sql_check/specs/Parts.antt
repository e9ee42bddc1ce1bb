-- What stands at the places of a part of a book, and which tables hold such a part.
use Rattle.std.specs.Prelude.{⊤, ℕ, ◌+◌, List, [], ◌∷◌, Option, Some, None}
use Rattle.ob_time.specs.Calendar.{day_count}
use Rattle.ob_time.specs.Dates.{day_text}
use Rattle.ob_book.specs.Acts.{ActState}
use Rattle.ob_sql_rows.specs.Rows.{Columns, Tables, meta_row}
use Rattle.ob_sql_rows.specs.Versions.{version_number}
use Rattle.ob_sql_rows.specs.declared.table.Table.{Table}
use Rattle.ob_sql_rows.specs.declared.table.Table.TheVariants.{Meta, Cause, Node, Device, Life, Customer, Entry, Mark, Command, Moved, Posting}
use Rattle.ob_sql_rows.specs.declared.version.Version.{Version}
use Rattle.ob_record.specs.Tables.{tables_of}

-- a row for each place that holds something, with its number; the first place has this one
abbrev pub placed : {X : Type 0} → (ℕ → X → Columns) → ℕ → List (Option X) → List (Option Columns)
placed row n [] = []
placed row n (None ∷ xs) = None ∷ placed row (n + 1) xs
placed row n (Some x ∷ xs) = Some (row n x) ∷ placed row (n + 1) xs

-- the table isn't that of commands nor that of what they moved
abbrev pub IsPart : Table → Type 0
IsPart Command = ⊥
IsPart Moved = ⊥
IsPart _ = ⊤

-- the rows of the tables in a version: the heading tells its number, and all other rows are as the book has them
abbrev pub parts_in : Version → ActState → Tables
parts_in version b Meta =
    meta_row (version_number version) (day_text b.book.period.first_day) (day_count b.book.period) b.book.period.zone ∷ []
parts_in version b Cause = tables_of b Cause
parts_in version b Node = tables_of b Node
parts_in version b Device = tables_of b Device
parts_in version b Life = tables_of b Life
parts_in version b Customer = tables_of b Customer
parts_in version b Entry = tables_of b Entry
parts_in version b Mark = tables_of b Mark
parts_in version b Command = tables_of b Command
parts_in version b Moved = tables_of b Moved
parts_in version b Posting = tables_of b Posting

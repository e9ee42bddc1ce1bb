-- The ten tables of a book of version 1, and the body texts that its commands have today.
use Rattle.std.specs.Prelude.{◌≡◌, ℕ, ◌+◌, List, [], ◌∷◌, ◌++◌, map, if◌then◌else◌}
use Rattle.std.specs.List.{AllByRecursion}
use Rattle.sqlite.specs.Tree.{Trees}
use Rattle.ob_time.specs.Calendar.{day_count}
use Rattle.ob_time.specs.Dates.{day_text}
use Rattle.ob_time.specs.Period.{IsPeriodText}
use Rattle.ob_command.specs.Commands.{body_text}
use Rattle.ob_command.specs.declared.command.Command.{Command as AnyCommand}
use Rattle.ob_state.specs.Next.{next}
use Rattle.ob_state.specs.State.{BookState, empty_book}
use Rattle.ob_book.specs.Acts.{ActState, Referenced, start}
use Rattle.ob_upgrade.specs.Old.{is_device, old_acts, old_body_text}
use Rattle.ob_upgrade.specs.OldFigures.{old_amount, old_moves}
use Rattle.ob_sql_rows.specs.Rows.{Columns, Tables, command_row, meta_row}
use Rattle.ob_sql_rows.specs.Versions.{Has}
use Rattle.ob_sql_rows.specs.declared.table.Table.{Table}
use Rattle.ob_sql_rows.specs.declared.table.Table.TheVariants.{Meta, Cause, Node, Device, Life, Customer, Entry, Mark, Command, Moved, Posting}
use Rattle.ob_sql_rows.specs.declared.version.Version.TheVariants.{One}
use Rattle.ob_sql_write.specs.Amounts.{amount_rows}
use Rattle.ob_sql_write.specs.declared.upgrade.NewBody.{NewBody}
use Rattle.ob_record.specs.Naming.{IsReferenced}
use Rattle.ob_record.specs.Tables.{Shows, numbered, rows_of_moves, tables_of}

-- the row of an accepted command under its number, with the body text that it had
abbrev pub row_of_old_command : ℕ → Referenced → Columns
row_of_old_command id a = command_row id a.reference (old_body_text a.command)

-- the rows of what accepted commands moved by version 1, each from the state before it to the one after it; the first has
-- this number
abbrev pub old_moved_rows : BookState → ℕ → List Referenced → List Columns
old_moved_rows b n [] = []
old_moved_rows b n (a ∷ more) =
    rows_of_moves n (old_moves b (next b a.command)) ++ old_moved_rows (next b a.command) (n + 1) more

-- the rows of the ten tables: as today, but for the version, the body texts, and what version 1 counted; there was no life
abbrev pub old_tables_of : ActState → Tables
old_tables_of b Meta = meta_row 1 (day_text b.book.period.first_day) (day_count b.book.period) b.book.period.zone ∷ []
old_tables_of b Cause = tables_of b Cause
old_tables_of b Node = tables_of b Node
old_tables_of b Device = tables_of b Device
old_tables_of b Life = []
old_tables_of b Customer = tables_of b Customer
old_tables_of b Entry = tables_of b Entry
old_tables_of b Mark = tables_of b Mark
old_tables_of b Command = numbered row_of_old_command 1 b.accepted
old_tables_of b Moved = old_moved_rows (empty_book b.book.period) 1 b.accepted
old_tables_of b Posting = amount_rows (day_count b.book.period) (old_amount b.book)

-- its period is the one that its first date, its days and its zone name; and its commands, each accepted by version 1 in its
-- turn under a new reference, lead to it from a new book
pub record IsOldReached (b : ActState) : Type 0 where
  pub period : IsPeriodText (day_text b.book.period.first_day) (day_count b.book.period) b.book.period.zone b.book.period
  pub in_turn : old_acts (start b.book.period) b.accepted ≡ b

-- the trees hold the ten tables of this book of version 1
pub record HasOldBook (trees : Trees) (b : ActState) : Type 0 where
  pub reached : IsOldReached b
  pub valid : AllByRecursion IsReferenced b.accepted
  pub tables : (table : Table) → Has One table → Shows trees table (old_tables_of b table)

-- under this number, today's body text of a command that adds a device
abbrev pub new_text : ℕ → AnyCommand → List (ℕ × List ℕ)
new_text n command = if is_device command then (n, body_text command) ∷ [] else []

-- the numbers and today's body texts of the commands that add devices, in order; the first command has this number
abbrev pub new_texts : ℕ → List Referenced → List (ℕ × List ℕ)
new_texts n [] = []
new_texts n (a ∷ more) = new_text n a.command ++ new_texts (n + 1) more

-- the numbers and texts of new bodies
abbrev pub texts_of : List NewBody → List (ℕ × List ℕ)
texts_of bodies = map (λ (b : NewBody). (b.no, b.body.items)) bodies

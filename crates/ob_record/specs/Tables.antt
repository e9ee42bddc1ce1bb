-- The eleven tables of a book and its accepted commands: for each table the list of its rows.
use Rattle.std.specs.Prelude.{ℕ, ◌+◌, List, [], ◌∷◌, ◌++◌, map, Option, Some, None}
use Rattle.std.specs.List.Sorted.{IsPermutation}
use Rattle.sqlite.specs.Tree.{Trees}
use Rattle.ob_net.specs.declared.net.Device.{Device as NetDevice}
use Rattle.ob_time.specs.Calendar.{day_count}
use Rattle.ob_time.specs.Dates.{day_text}
use Rattle.ob_post.specs.Keys.{dim_number}
use Rattle.ob_post.specs.declared.Moved.{Moved as MovedAmount}
use Rattle.ob_command.specs.Commands.{body_text}
use Rattle.ob_state.specs.State.{BookState, empty_book}
use Rattle.ob_state.specs.Next.{next}
use Rattle.ob_state.specs.Amounts.{amount, moves}
use Rattle.ob_book.specs.Acts.{ActState, Referenced}
use Rattle.ob_sql_rows.specs.declared.table.Table.{Table}
use Rattle.ob_sql_rows.specs.Rows.{Columns, Tables, shown, tree_of, meta_row, cause_row, node_row, device_row, life_row, customer_row, entry_row, mark_row, command_row, moved_row}
use Rattle.ob_sql_rows.specs.declared.table.Table.TheVariants.{Meta, Cause, Node, Device, Life, Customer, Entry, Mark, Command, Moved, Posting}
use Rattle.ob_sql_write.specs.Amounts.{amount_rows}

-- the rows that a table of these trees shows, in some order
abbrev pub Shows : Trees → Table → List Columns → Type 0
Shows trees table rows = IsPermutation (map (shown table) (trees (tree_of table))) rows

-- a row for each element, with its number; the first has this one
abbrev pub numbered : {X : Type 0} → (ℕ → X → Columns) → ℕ → List X → List Columns
numbered row n [] = []
numbered row n (x ∷ xs) = row n x ∷ numbered row (n + 1) xs

-- a row for each place that holds something; the first place has this number
abbrev pub present : {X : Type 0} → (ℕ → X → Columns) → ℕ → List (Option X) → List Columns
present row n [] = []
present row n (None ∷ xs) = present row (n + 1) xs
present row n (Some x ∷ xs) = row n x ∷ present row (n + 1) xs

-- the row of a device's life
abbrev pub row_of_life : ℕ → NetDevice → Columns
row_of_life id device = life_row id device.life

-- the row of an accepted command under its number
abbrev pub row_of_command : ℕ → Referenced → Columns
row_of_command id a = command_row id a.reference (body_text a.command)

-- the rows of the amounts that a command moved
abbrev pub rows_of_moves : ℕ → List MovedAmount → List Columns
rows_of_moves id moved = map (λ (m : MovedAmount). moved_row id (dim_number m.dim) m.key m.delta) moved

-- the rows of what accepted commands moved, each from the state before it to the one after it; the first has this number
abbrev pub moved_rows : BookState → ℕ → List Referenced → List Columns
moved_rows b n [] = []
moved_rows b n (a ∷ more) =
    rows_of_moves n (moves b (next b a.command)) ++ moved_rows (next b a.command) (n + 1) more

-- the rows of the tables: those of the state, those of the accepted commands, what each of them moved, and the
-- customer-seconds without supply of the state
abbrev pub tables_of : ActState → Tables
tables_of b Meta = meta_row 2 (day_text b.book.period.first_day) (day_count b.book.period) b.book.period.zone ∷ []
tables_of b Cause = present cause_row 0 b.book.causes
tables_of b Node = numbered node_row 0 b.book.network.nodes
tables_of b Device = numbered device_row 0 b.book.network.devices
tables_of b Life = numbered row_of_life 0 b.book.network.devices
tables_of b Customer = map customer_row b.book.customers
tables_of b Entry = map entry_row b.book.entries
tables_of b Mark = present mark_row 0 b.book.marks
tables_of b Command = numbered row_of_command 1 b.accepted
tables_of b Moved = moved_rows (empty_book b.book.period) 1 b.accepted
tables_of b Posting = amount_rows (day_count b.book.period) (amount b.book)

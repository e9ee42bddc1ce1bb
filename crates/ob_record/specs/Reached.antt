-- The states that a book of accepted commands can have.
use Rattle.std.specs.Prelude.{◌≡◌, ◌≤◌, [], ◌∷◌, length, codes, None, true}
use Rattle.ob_time.specs.Calendar.{Calendar, day_count}
use Rattle.ob_time.specs.Dates.{day_text}
use Rattle.ob_time.specs.Period.{IsPeriodText}
use Rattle.ob_book.specs.Acts.{ActState, Referenced, acts, is_accepted, of_commands, start, take_on}
use Rattle.ob_sql_rows.specs.Rows.{Tables, meta_row, cause_row, node_row}
use Rattle.ob_sql_rows.specs.declared.table.Table.{Table}
use Rattle.ob_sql_rows.specs.declared.table.Table.TheVariants.{Meta, Cause, Node, Device, Life, Customer, Entry, Mark, Command, Moved, Posting}
use Rattle.ob_sql_write.specs.Amounts.{amount_rows}
use Rattle.ob_record.specs.Tables.{tables_of}

-- its period is the one that its first date, its days and its zone name; and its commands, each accepted in its turn under
-- a new reference, lead to it from a new book
pub record IsReached (b : ActState) : Type 0 where
  pub period : IsPeriodText (day_text b.book.period.first_day) (day_count b.book.period) b.book.period.zone b.book.period
  pub in_turn : acts (start b.book.period) b.accepted ≡ b

-- so is a new book of such a period
abbrev pub StartIsReached : Type 0
StartIsReached =
    (p : Calendar) → IsPeriodText (day_text p.first_day) (day_count p) p.zone p → IsReached (start p)

-- an accepted command leads on
abbrev pub AcceptedIsReached : Type 0
AcceptedIsReached =
    (b : ActState) (a : Referenced) → IsReached b → is_accepted b a ≡ true → IsReached (take_on b a)

-- a reached state is that of its commands
abbrev pub ReachedIsOfCommands : Type 0
ReachedIsOfCommands = (b : ActState) → IsReached b → b ≡ of_commands b.book.period b.accepted

-- its book counts them
abbrev pub ReachedCounts : Type 0
ReachedCounts = (b : ActState) → IsReached b → b.book.accepted ≡ length b.accepted

-- no more commands were accepted than a book takes
abbrev pub ReachedAreFew : Type 0
ReachedAreFew = (b : ActState) → IsReached b → length b.accepted ≤ 1_000_000

-- the rows that a book of this period begins with: its period, cause 0, GRID, and an amount of 0 for each key
abbrev pub first_rows : Calendar → Tables
first_rows p Meta = meta_row 2 (day_text p.first_day) (day_count p) p.zone ∷ []
first_rows p Cause = cause_row 0 (codes "UNASSIGNED") ∷ []
first_rows p Node = node_row 0 (record { name = codes "GRID"; feeder = None }) ∷ []
first_rows p Device = []
first_rows p Life = []
first_rows p Customer = []
first_rows p Entry = []
first_rows p Mark = []
first_rows p Command = []
first_rows p Moved = []
first_rows p Posting = amount_rows (day_count p) (λ dim key. 0)

-- a new book has them alone
abbrev pub StartHasFirstRows : Type 0
StartHasFirstRows = (p : Calendar) (table : Table) → tables_of (start p) table ≡ first_rows p table

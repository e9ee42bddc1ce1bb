-- The laws that join the tables of a book of version 1 and those of the same book today.
use Rattle.std.specs.Prelude.{◌≡◌, List, ⊤, length, true}
use Rattle.std.specs.List.{AllByRecursion}
use Rattle.std.specs.List.Sorted.{IsPermutation}
use Rattle.sqlite.specs.Tree.{Trees}
use Rattle.ob_time.specs.Calendar.{Calendar, day_count}
use Rattle.ob_time.specs.Dates.{day_text}
use Rattle.ob_time.specs.Period.{IsPeriodText}
use Rattle.ob_book.specs.Acts.{ActState, Referenced}
use Rattle.ob_upgrade.specs.Laws.{LiveAlways}
use Rattle.ob_upgrade.specs.Old.{is_old}
use Rattle.ob_sql_rows.specs.declared.table.Table.{Table}
use Rattle.ob_sql_rows.specs.declared.table.Table.TheVariants.{Meta, Life, Command}
use Rattle.ob_sql_write.specs.Upgrade.{CanUpgrade, LetsUpgrade, with_upgrade}
use Rattle.ob_sql_write.specs.declared.upgrade.NewBody.{NewBody}
use Rattle.ob_record.specs.Naming.{IsReferenced}
use Rattle.ob_record.specs.Reached.{IsReached}
use Rattle.ob_record.specs.Tables.{tables_of}
use Rattle.ob_sql_check.specs.OldTables.{HasOldBook, IsOldReached, new_texts, old_tables_of, texts_of}

-- a command of version 1 under a reference
abbrev pub IsOldCommand : Referenced → Type 0
IsOldCommand a = is_old a.command ≡ true

-- a book of version 1 is one of today, its commands are of version 1, and its devices live always
abbrev pub OldIsReached : Type 0
OldIsReached =
    (b : ActState) → IsOldReached b → IsReached b × AllByRecursion IsOldCommand b.accepted × LiveAlways b.book

-- the table had the rows that it has today
abbrev pub IsAlike : Table → Type 0
IsAlike Meta = ⊥
IsAlike Command = ⊥
IsAlike Life = ⊥
IsAlike table = ⊤

-- but for the version, the body texts and the lives, the tables are those of today
abbrev pub TablesAreAlike : Type 0
TablesAreAlike =
    (b : ActState) → IsOldReached b → (table : Table) → IsAlike table → old_tables_of b table ≡ tables_of b table

-- with today's body texts of the commands that add devices, and a life for each device, the tables of a book of version 1 can
-- be made those of today, and become them, in some order of their rows
abbrev pub Upgraded : Type 0
Upgraded =
    (b : ActState) (bodies : List NewBody) → IsOldReached b → texts_of bodies ≡ new_texts 1 b.accepted
    → CanUpgrade bodies (length b.book.network.devices) (old_tables_of b)
    × ((table : Table)
    → IsPermutation (with_upgrade bodies (length b.book.network.devices) (old_tables_of b) table) (tables_of b table))

-- and the rules of today's tables let the rows of that in, where its references and commands are what their types keep
abbrev pub LetsUpgraded : Type 0
LetsUpgraded =
    (b : ActState) (bodies : List NewBody) → IsOldReached b → AllByRecursion IsReferenced b.accepted
    → texts_of bodies ≡ new_texts 1 b.accepted → LetsUpgrade bodies (length b.book.network.devices) (old_tables_of b)

-- the texts of the book's period name it alone
abbrev pub NamesOnePeriod : ActState → Type 0
NamesOnePeriod b =
    (p : Calendar) → IsPeriodText (day_text b.book.period.first_day) (day_count b.book.period) b.book.period.zone p
    → p ≡ b.book.period

-- trees that hold the ten tables of a book of version 1, the texts of whose period name it alone, hold those of no other
abbrev pub HoldsOneOldBook : Type 0
HoldsOneOldBook =
    (trees : Trees) (b c : ActState) → HasOldBook trees b → HasOldBook trees c → NamesOnePeriod c → b ≡ c

-- The first table that differs from those of a book, found table by table.
use Rattle.std.specs.Prelude.{◌≡◌, ◌↔◌, ℕ, ◌<◌, Bool, Option, Some, None, IsTrue}
use Rattle.sqlite.specs.Tree.{Trees}
use Rattle.ob_book.specs.Acts.{ActState}
use Rattle.ob_sql_rows.specs.declared.table.Table.{Table}
use Rattle.ob_sql_rows.specs.declared.table.Table.TheVariants.{Command, Moved}
use Rattle.ob_record.specs.Tables.{Shows, tables_of}
use Rattle.ob_store.specs.Finding.{Differs, place_of}

-- no trees are told to be no book's
abbrev pub NoneSo : Trees → Type 0
NoneSo trees = ⊥

-- the table has the rows of the book; or it is this one, which hasn't
abbrev pub IsOff : ActState → Table → Trees → Option Table → Type 0
IsOff b table trees None = Shows trees table (tables_of b table)
IsOff b table trees (Some other) = (other ≡ table) × ¬ (Shows trees table (tables_of b table))

-- the first so many tables have the rows of the book; or this is the first that hasn't
abbrev pub IsFirstOffOf : ℕ → ActState → Trees → Option Table → Type 0
IsFirstOffOf n b trees None = (table : Table) → place_of table < n → Shows trees table (tables_of b table)
IsFirstOffOf n b trees (Some table) = Differs trees b (Some table)

-- where it is known whether the rows of commands and those of the amounts that they moved are those of the book: the first
-- table that hasn't the rows of the book, or None where each has
abbrev pub IsFirstOff : ActState → Bool → Bool → Trees → Option Table → Type 0
IsFirstOff b counted moved trees found =
    IsTrue counted ↔ Shows trees Command (tables_of b Command) → IsTrue moved ↔ Shows trees Moved (tables_of b Moved)
    → Differs trees b found

-- The versions of the tables: which tables each has, and what trees hold of them.
use Rattle.std.specs.Prelude.{◌≡◌, ℕ, [], ⊤, IsTrue, map}
use Rattle.std.specs.List.Sorted.{IsPermutation}
use Rattle.sqlite.specs.Effect.{IsDatabase}
use Rattle.sqlite.specs.Schema.{Schema}
use Rattle.sqlite.specs.State.{State}
use Rattle.sqlite.specs.Tree.{Trees}
use Rattle.ob_sql_rows.specs.Creation.{old_schema}
use Rattle.ob_sql_rows.specs.Rows.{AreApart, Holds, Tables, shown, tree_of}
use Rattle.ob_sql_rows.specs.Rules.{AreNumbered}
use Rattle.ob_sql_rows.specs.Schema.{book_schema}
use Rattle.ob_sql_rows.specs.declared.table.Table.{Table}
use Rattle.ob_sql_rows.specs.declared.table.Table.TheVariants.{Meta, Cause, Node, Device, Life, Customer, Entry, Mark, Command, Moved, Posting}
use Rattle.ob_sql_rows.specs.declared.version.Version.{Version}
use Rattle.ob_sql_rows.specs.declared.version.Version.TheVariants.{One, Two}

-- the number of a version
abbrev pub version_number : Version → ℕ
version_number One = 1
version_number Two = 2

-- the schema of a version's tables
abbrev pub schema_of : Version → Schema
schema_of One = old_schema
schema_of Two = book_schema

-- the version has the table: version 1 had no lives
abbrev pub Has : Version → Table → Type 0
Has Two table = ⊤
Has One Life = ⊥
Has One table = ⊤

-- the trees hold these rows of the tables of version 1, in some order
pub record HoldsOld (trees : Trees) (tables : Tables) : Type 0 where
  pub rows : (table : Table) → Has One table → IsPermutation (map (shown table) (trees (tree_of table))) (tables table)
  -- the rows of amounts have hidden rowids
  pub apart : AreApart (trees 14)

-- the trees hold these rows of the version's tables, in some order
abbrev pub HoldsIn : Version → Trees → Tables → Type 0
HoldsIn One trees tables = HoldsOld trees tables
HoldsIn Two trees tables = Holds trees tables

-- these tables, and no life
abbrev pub without_lives : Tables → Tables
without_lives tables Life = []
without_lives tables Meta = tables Meta
without_lives tables Cause = tables Cause
without_lives tables Node = tables Node
without_lives tables Device = tables Device
without_lives tables Customer = tables Customer
without_lives tables Entry = tables Entry
without_lives tables Mark = tables Mark
without_lives tables Command = tables Command
without_lives tables Moved = tables Moved
without_lives tables Posting = tables Posting

-- inside a transaction over the tables of version 1, the table of lives was made, without rows
pub record MakesLife (old new : State) : Type 0 where
  pub live : IsTrue old.is_open
  pub stays : IsTrue new.is_open
  pub inside : IsTrue new.in_transaction
  pub schema : old.now.schema ≡ old_schema → new.now.schema ≡ book_schema
  pub sound : old.now.schema ≡ old_schema → IsDatabase old.now → IsDatabase new.now
  pub holds : old.now.schema ≡ old_schema → (tables : Tables) → HoldsOld old.now.trees tables
      → Holds new.now.trees (without_lives tables)
  pub numbered : old.now.schema ≡ old_schema → AreNumbered old.now.trees → AreNumbered new.now.trees

-- a whole database of the tables of version 1
abbrev pub LetsLives : State → Type 0
LetsLives s = (s.now.schema ≡ old_schema) × IsDatabase s.now

-- What a keeper finds in the tables of its store: a whole book, or the first table that differs from one.
use Rattle.std.specs.Prelude.{◌≡◌, ⊤, Option, Some, None, Result, Ok, Err}
use Rattle.sqlite_trees.specs.declared.store.Store.{Ghosts}
use Rattle.sqlite.specs.Tree.{Trees}
use Rattle.sqlite.specs.Held.{Held, state}
use Rattle.ob_base.specs.declared.stop.Stop.{Stop}
use Rattle.ob_base.specs.declared.stop.Stop.TheVariants.{Refused, Fault}
use Rattle.ob_base.specs.declared.stop.Refusal.TheVariants.{BadBook, OldVersion}
use Rattle.ob_base.specs.declared.stop.Fault.TheVariants.{OutOfMemory, Store}
use Rattle.ob_state.specs.State.{BookState}
use Rattle.ob_book.specs.Acts.{ActState}
use Rattle.ob_sql_rows.specs.declared.table.Table.{Table}
use Rattle.ob_sql_rows.specs.Rows.{AreApart}
use Rattle.ob_sql_read.specs.Version.{HasVersion}
use Rattle.ob_store.specs.Keeping.{KeeperValue, Ties}
use Rattle.ob_store.specs.Finding.{AreOfNoOther, Differs, HasBook, HasNoBook, IsBookOf, OnlyReads, ShowsTheSame}
use Rattle.ob_store.specs.Versions.{IsOutdated}

-- the tables are those of no book
abbrev pub HoldsNoBook : Trees → Type 0
HoldsNoBook trees = (b : ActState) → ¬ (HasBook trees b)

-- the first of the tables that differs from those of the one book whose period and commands they name
abbrev pub Finding : Trees → Option Table → Type 0
Finding trees found = (b : ActState) × IsBookOf trees b × AreOfNoOther trees b × Differs trees b found

-- the tables are those of a book with this state, and of no other, and no two amounts stand under one hidden row number
abbrev pub Holding : Trees → BookState → Type 0
Holding trees s = (b : ActState) × HasBook trees b × AreOfNoOther trees b × AreApart (trees 14) × (s ≡ b.book)

module _ {S : Type 0} (g : Ghosts S) where
  -- the tables that the store shows
  abbrev pub trees_in : Held S → Trees
  trees_in conn = (state g conn).now.trees

  -- a keeper's book is that of its tables; or why there is none, first of all that it is of version 1; and then it has the
  -- book that it had, or, after a fault of the store, none
  abbrev pub Loaded : KeeperValue S → KeeperValue S → Result ⊤ Stop → Type 0
  Loaded old new (Ok done) =
      (b : ActState) × HasBook (trees_in old.conn) b × AreOfNoOther (trees_in old.conn) b × ShowsTheSame g old.conn new.conn
      × Ties g new b × (new.book ≡ Some b.book)
  Loaded old new (Err (Refused (OldVersion version))) = (version ≡ 1) × IsOutdated g old new
  Loaded old new (Err (Refused BadBook)) =
      (¬ (HasVersion 1 (trees_in old.conn))) × HoldsNoBook (trees_in old.conn) × ShowsTheSame g old.conn new.conn × (new.book ≡ old.book)
  Loaded old new (Err (Refused refusal)) = ⊥
  Loaded old new (Err (Fault OutOfMemory)) = OnlyReads g old.conn new.conn × (new.book ≡ old.book)
  Loaded old new (Err (Fault Store)) = OnlyReads g old.conn new.conn × (new.book ≡ None)
  Loaded old new (Err (Fault fault)) = ⊥

  -- the first table that differs from those of the book whose period and commands they name, or None where they are that
  -- book's; or they name those of no book; first of all a book of version 1 is told
  abbrev pub Audited : KeeperValue S → KeeperValue S → Result (Option Table) Stop → Type 0
  Audited old new (Ok found) =
      (¬ (HasVersion 1 (trees_in old.conn))) × Finding (trees_in old.conn) found × ShowsTheSame g old.conn new.conn × (new.book ≡ old.book)
  Audited old new (Err (Refused (OldVersion version))) = (version ≡ 1) × IsOutdated g old new
  Audited old new (Err (Refused BadBook)) =
      (¬ (HasVersion 1 (trees_in old.conn))) × HasNoBook (trees_in old.conn) × ShowsTheSame g old.conn new.conn × (new.book ≡ old.book)
  Audited old new (Err (Refused refusal)) = ⊥
  Audited old new (Err (Fault OutOfMemory)) = OnlyReads g old.conn new.conn × (new.book ≡ old.book)
  Audited old new (Err (Fault Store)) = OnlyReads g old.conn new.conn × (new.book ≡ None)
  Audited old new (Err (Fault fault)) = ⊥

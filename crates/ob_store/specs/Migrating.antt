-- What becomes of a store whose tables of version 1 are to be made those of version 2.
use Rattle.std.specs.Prelude.{◌≡◌, ◌⊎◌, ℕ, List, [], Bool, true, false, Result, Ok, Err, IfOk, IfErr, IsTrue}
use Rattle.sqlite_trees.specs.declared.store.Store.{Ghosts}
use Rattle.sqlite.specs.Tree.{Trees}
use Rattle.sqlite.specs.Held.{Held, state}
use Rattle.sqlite.specs.State.{State, HasCleanDisk, Shown}
use Rattle.ob_base.specs.declared.stop.Stop.{Stop}
use Rattle.ob_base.specs.declared.stop.Stop.TheVariants.{Refused, Fault}
use Rattle.ob_base.specs.declared.stop.Refusal.TheVariants.{BadBook}
use Rattle.ob_base.specs.declared.stop.Fault.TheVariants.{OutOfMemory, Store}
use Rattle.ob_book.specs.Acts.{ActState}
use Rattle.ob_sql_rows.specs.Creation.{old_schema}
use Rattle.ob_sql_rows.specs.Listings.{select_of}
use Rattle.ob_sql_rows.specs.Rows.{Columns}
use Rattle.ob_sql_rows.specs.Schema.{no_schema}
use Rattle.ob_sql_rows.specs.Steps.{HasFailed}
use Rattle.ob_sql_rows.specs.Versions.{schema_of}
use Rattle.ob_sql_rows.specs.declared.table.Table.TheVariants.{Meta}
use Rattle.ob_sql_rows.specs.declared.version.Version.{Version}
use Rattle.ob_sql_rows.specs.declared.version.Version.TheVariants.{One}
use Rattle.ob_sql_write.specs.Keeps.{HasCommitCause, KeepsNumbers, Leaves}
use Rattle.ob_record.specs.Tables.{tables_of}
use Rattle.ob_sql_read.specs.Reading.{IsMissed}
use Rattle.ob_sql_read.specs.Version.{HasVersion, IsOfBook, IsVersionRow}
use Rattle.ob_sql_check.specs.OldTables.{HasOldBook}
use Rattle.ob_store.specs.Finding.{OnlyReads, ShowsTheSame}
use Rattle.ob_store.specs.Keeping.{IsAnswer, IsBroken, KeepsBook, KeepsEitherBook}
pub use Rattle.ob_store.specs.Keeping.{KeepsEitherVersion, KeepsOldBook}
use Rattle.ob_store.specs.Loading.{trees_in}
use Rattle.ob_store.specs.Shapes.{IsShapeOf}

-- the tables are those of no book of version 1
abbrev pub HoldsNoOldBook : Trees → Type 0
HoldsNoOldBook trees = (b : ActState) → ¬ (HasOldBook trees b)

-- they are those of this book of version 1, and of no other
abbrev pub HoldsOldBook : Trees → ActState → Type 0
HoldsOldBook trees b = HasOldBook trees b × ((other : ActState) → HasOldBook trees other → other ≡ b)

-- a whole database of version 2, of the one book whose tables of version 1 these trees hold
abbrev pub LeavesUpgradeOf : Trees → Trees → Type 0
LeavesUpgradeOf was trees = (b : ActState) × HoldsOldBook was b × Leaves (tables_of b) trees

-- the store was open and its tables had the names of those of version 1, and as many indexes; where they were these, a whole
-- database of version 2, of the one book that they held
abbrev pub LeavesKept : State → Trees → Type 0
LeavesKept s trees =
    IsTrue s.is_open × IsShapeOf One s.now.schema × (s.now.schema ≡ old_schema → LeavesUpgradeOf s.now.trees trees)

-- a reading of the heading showed one row, with this version
abbrev pub ShowsVersion : ℕ → State → State → Type 0
ShowsVersion version old new = (rows : List Columns) × Shown (select_of Meta) [] old new rows × IsVersionRow version rows

module _ {S : Type 0} (g : Ghosts S) where
  -- nothing was written: a book of version 1 that the store keeps it keeps on, and a crash leaves no more than before
  pub record OnlyReadsOld (old new : Held S) : Type 0 where
    pub kept : (b : ActState) → KeepsOldBook (state g old) b → KeepsOldBook (state g new) b
    pub left : (trees : Trees) → (state g new).may_leave trees → (state g old).may_leave trees

  -- and what it shows is what it showed
  abbrev pub ShowsTheSameOld : Held S → Held S → Type 0
  ShowsTheSameOld old new = OnlyReadsOld old new × ((state g new).now ≡ (state g old).now)

  -- what a fault of the store leaves: while it is open the store keeps a book of version 1 that it kept; a crash leaves what it
  -- left before, or the tables of version 2 of the book whose tables of version 1 stood there
  pub record StaysOrUpgrades (old new : Held S) : Type 0 where
    pub kept : (b : ActState) → KeepsOldBook (state g old) b → KeepsEitherVersion (state g new) b
    pub left : (trees : Trees) → (state g new).may_leave trees
        → (state g old).may_leave trees ⊎ LeavesUpgradeOf (trees_in g old) trees

  -- over the tables of version 1: the store keeps the book that they hold, in those of version 2; or the heading tells
  -- version 2; or the tables are those of no book of version 1; or memory was refused, or the store failed
  abbrev pub Migrated : Held S → Held S → Result Bool Stop → Type 0
  Migrated old new (Ok true) = (b : ActState) × HoldsOldBook (trees_in g old) b × KeepsBook (state g new) b
  Migrated old new (Ok false) = HasVersion 2 (trees_in g old) × ShowsTheSameOld old new
  Migrated old new (Err (Refused BadBook)) =
      (¬ (HasVersion 2 (trees_in g old))) × HoldsNoOldBook (trees_in g old) × ShowsTheSameOld old new
  Migrated old new (Err (Refused refusal)) = ⊥
  Migrated old new (Err (Fault OutOfMemory)) = OnlyReadsOld old new
  Migrated old new (Err (Fault Store)) = StaysOrUpgrades old new
  Migrated old new (Err (Fault fault)) = ⊥

  -- over the tables of version 2 nothing is written: the heading tells that version, or another one
  abbrev pub LeftAsItWas : Held S → Held S → Result Bool Stop → Type 0
  LeftAsItWas old new (Ok true) = ⊥
  LeftAsItWas old new (Ok false) = HasVersion 2 (trees_in g old) × ShowsTheSame g old new
  LeftAsItWas old new (Err (Refused BadBook)) = (¬ (HasVersion 2 (trees_in g old))) × ShowsTheSame g old new
  LeftAsItWas old new (Err (Refused refusal)) = ⊥
  LeftAsItWas old new (Err (Fault OutOfMemory)) = OnlyReads g old new
  LeftAsItWas old new (Err (Fault Store)) = OnlyReads g old new
  LeftAsItWas old new (Err (Fault fault)) = ⊥

  -- what became of a book of version 1 that an open store kept: the store keeps it in the tables of version 2; or, where
  -- memory was refused, in those of version 1; or, after a fault of the store, a crash leaves the ones or the others
  abbrev pub MigratesKept : Held S → ActState → Result Bool Stop → Type 0
  MigratesKept new b (Ok true) = KeepsBook (state g new) b
  MigratesKept new b (Ok false) = ⊥
  MigratesKept new b (Err (Refused refusal)) = ⊥
  MigratesKept new b (Err (Fault OutOfMemory)) = KeepsOldBook (state g new) b
  MigratesKept new b (Err (Fault Store)) = KeepsEitherVersion (state g new) b
  MigratesKept new b (Err (Fault fault)) = ⊥

  -- where the store is told to have failed, it has, or the file is broken; or the tables of version 1 of one book were being made
  -- those of version 2: where a crash left hidden row numbers 1, 2, 3 and so on, the store has failed then too, or the transaction
  -- that showed the tables of version 2 was undone, as for want of memory
  abbrev pub HasUpgradeCause : Held S → Held S → Result Bool Stop → Type 0
  HasUpgradeCause old new result = IfErr result (λ stop. stop ≡ Fault Store
      → (HasFailed (state g old) (state g new) ⊎ IsBroken (trees_in g old))
      ⊎ ((old.schema ≡ old_schema) × (b : ActState) × HoldsOldBook (trees_in g old) b
      × (KeepsNumbers (state g old) → HasCommitCause g (state g old) (state g new) (tables_of b))))

  -- such row numbers stay, where an open store shows the tables of a version
  abbrev pub KeepsOnNumbers : Held S → Held S → Type 0
  KeepsOnNumbers old new =
      (HasCleanDisk (state g old) → IsTrue (state g old).is_open → IsOfBook old.schema) → KeepsNumbers (state g old)
      → KeepsNumbers (state g new)

  -- an answer or a refusal comes of an open store alone, true over tables that have the names of those of version 1, and false
  -- where the heading showed version 2. A book of version 2 that the store kept it keeps on, and so it does either of two; and
  -- where there is no answer, a book in the tables of either version. An empty database is told as that of no book, unless other
  -- trouble came before; and over the tables of a version a failure of the store has a cause, and the hidden row numbers stay
  pub record MigratesOn (old new : Held S) (result : Result Bool Stop) : Type 0 where
    pub live : HasCleanDisk (state g new) → IsAnswer result → IsTrue (state g old).is_open
    pub shape : HasCleanDisk (state g new) → IfOk result (λ done. IsTrue done → IsShapeOf One old.schema)
    pub told : HasCleanDisk (state g new)
        → IfOk result (λ done. done ≡ false → ShowsVersion 2 (state g old) (state g new))
    pub book : (b : ActState) → KeepsBook (state g old) b → KeepsBook (state g new) b
    pub either : (b c : ActState) → KeepsEitherBook (state g old) b c → KeepsEitherBook (state g new) b c
    pub version : HasCleanDisk (state g new) → IfErr result (λ stop. (b : ActState) → KeepsEitherVersion (state g old) b
        → KeepsEitherVersion (state g new) b)
    pub empty : HasCleanDisk (state g new) → old.schema ≡ no_schema → IsMissed (state g old) (state g new) result
    pub cause : HasCleanDisk (state g new) → (v : Version) → old.schema ≡ schema_of v → HasUpgradeCause old new result
    pub numbered : KeepsOnNumbers old new

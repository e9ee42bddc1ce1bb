-- What is found of the tables of version 1 before they are made those of version 2, and what is written then.
use Rattle.std.specs.Prelude.{◌≡◌, ◌⊎◌, ⊤, Bool, true, false, [], Result, Ok, Err, IsTrue, IfErr}
use Rattle.std.specs.List.Sorted.{IsPermutation}
use Rattle.sqlite_trees.specs.declared.store.Store.{Ghosts}
use Rattle.sqlite.specs.Tree.{Trees}
use Rattle.sqlite.specs.Held.{Held, state}
use Rattle.sqlite.specs.State.{HasCleanDisk, Survives}
use Rattle.ob_base.specs.declared.stop.Stop.{Stop}
use Rattle.ob_base.specs.declared.stop.Stop.TheVariants.{Refused, Fault}
use Rattle.ob_base.specs.declared.stop.Fault.TheVariants.{OutOfMemory, Store}
use Rattle.ob_state.specs.State.{BookState}
use Rattle.ob_book.specs.Acts.{ActState}
use Rattle.ob_sql_rows.specs.Creation.{old_schema}
use Rattle.ob_sql_rows.specs.Rows.{AreApart, Tables}
use Rattle.ob_sql_rows.specs.Schema.{book_schema}
use Rattle.ob_sql_rows.specs.declared.table.Table.{Table}
use Rattle.ob_sql_rows.specs.declared.table.Table.TheVariants.{Life, Command, Moved}
use Rattle.ob_sql_rows.specs.Versions.{schema_of}
use Rattle.ob_sql_rows.specs.declared.version.Version.{Version}
use Rattle.ob_sql_rows.specs.declared.version.Version.TheVariants.{One, Two}
use Rattle.ob_sql_write.specs.Keeps.{HasCommitCause, Leaves}
use Rattle.ob_sql_write.specs.Upgrade.{CanUpgrade, LetsUpgrade, with_upgrade}
use Rattle.ob_record.specs.Tables.{Shows, tables_of}
use Rattle.ob_sql_read.specs.Reading.{IsReadFault}
use Rattle.ob_sql_read.specs.Version.{HasVersion}
use Rattle.ob_sql_check.specs.OldTables.{HasOldBook, old_tables_of}
use Rattle.ob_sql_check.specs.Parts.{parts_in}
use Rattle.ob_store.specs.declared.migrating.Upgrade.{Upgrade}
use Rattle.ob_store.specs.Keeping.{KeepsBook}
use Rattle.ob_store.specs.Migrating.{HasUpgradeCause, HoldsOldBook, KeepsEitherVersion, KeepsOldBook, KeepsOnNumbers, LeavesKept, LeftAsItWas, Migrated, MigratesKept}

-- what the heading tells: version 2, or another one; the tables of version 2 are told to be no other's
abbrev pub IsTold : Version → Trees → Bool → Type 0
IsTold version trees true = HasVersion 2 trees
IsTold One trees false = ¬ (HasVersion 2 trees)
IsTold Two trees false = ⊥

-- it tells neither version, or version 1 over the tables of version 2
abbrev pub IsUntold : Version → Trees → Type 0
IsUntold One trees = (¬ (HasVersion 2 trees)) × ¬ (HasVersion 1 trees)
IsUntold Two trees = ¬ (HasVersion 2 trees)

-- a table of version 1 other than that of commands and that of what they moved
abbrev pub IsOldPart : Table → Type 0
IsOldPart Life = ⊥
IsOldPart Command = ⊥
IsOldPart Moved = ⊥
IsOldPart table = ⊤

-- the state, with no commands
abbrev pub bare : BookState → ActState
bare s = record { book = s; accepted = [] }

-- those of version 1 have the rows of the state
abbrev pub HasOldRows : Trees → BookState → Type 0
HasOldRows trees s = (table : Table) → IsOldPart table → Shows trees table (parts_in One (bare s) table)

-- and no two amounts stand under one hidden row number
abbrev pub HasOldParts : Trees → BookState → Type 0
HasOldParts trees s = HasOldRows trees s × AreApart (trees 14)

-- it makes the tables of version 1 of the book those of version 2, in some order of their rows, which the rules of the tables let in
pub record IsUpgradeOf (b : ActState) (it : Upgrade) : Type 0 where
  pub can : CanUpgrade it.bodies.items it.devices (old_tables_of b)
  pub lets : LetsUpgrade it.bodies.items it.devices (old_tables_of b)
  pub rows : (table : Table) → IsPermutation (with_upgrade it.bodies.items it.devices (old_tables_of b) table) (tables_of b table)

-- the tables are those of one book of version 1, and this makes them those of version 2
abbrev pub Upgradable : Trees → Upgrade → Type 0
Upgradable trees it = (b : ActState) × HoldsOldBook trees b × AreApart (trees 14) × IsUpgradeOf b it

module _ {S : Type 0} (g : Ghosts S) where
  -- it is so of the book of version 1 that the store showed while it was open and whose upgrade this is
  abbrev pub OfUpgraded : Held S → Upgrade → (ActState → Type 0) → Type 0
  OfUpgraded old it P =
      IsTrue (state g old).is_open → old.schema ≡ old_schema → (b : ActState) → HasOldBook (state g old).now.trees b
      → AreApart ((state g old).now.trees 14) → IsUpgradeOf b it → P b

  -- the tables of version 2 of that book
  abbrev pub LeavesWritten : Held S → Upgrade → Trees → Type 0
  LeavesWritten old it trees = OfUpgraded old it (λ b. Leaves (tables_of b) trees)

  -- why the store failed to make these tables
  abbrev pub HasWriteCause : Held S → Held S → Tables → Result ⊤ Stop → Type 0
  HasWriteCause old new t result = IfErr result (λ stop. stop ≡ Fault Store → HasCommitCause g (state g old) (state g new) t)

  -- what an upgrade leaves of the book of version 1 that the store showed: the tables of version 2; or, where memory was refused,
  -- what there was; or, after a fault of the store, what there was while it is open, and a crash leaves that or the tables of
  -- version 2
  abbrev pub Upgraded : Held S → Held S → ActState → Result ⊤ Stop → Type 0
  Upgraded old new b (Ok done) = KeepsBook (state g new) b
  Upgraded old new b (Err (Refused refusal)) = ⊥
  Upgraded old new b (Err (Fault OutOfMemory)) =
      KeepsOldBook (state g new) b × ((trees : Trees) → (state g new).may_leave trees → (state g old).may_leave trees)
  Upgraded old new b (Err (Fault Store)) =
      KeepsEitherVersion (state g new) b
      × ((trees : Trees) → (state g new).may_leave trees → (state g old).may_leave trees ⊎ Leaves (tables_of b) trees)
  Upgraded old new b (Err (Fault fault)) = ⊥

  -- the tables of version 1 were to be made those of version 2
  pub record Migrates (old new : Held S) (result : Result Bool Stop) : Type 0 where
    pub clean : HasCleanDisk (state g new) → HasCleanDisk (state g old)
    pub survives : Survives (state g old) (state g new) (LeavesKept (state g old))
    pub faults : IfErr result IsReadFault
    pub cause : HasCleanDisk (state g new) → (v : Version) → old.schema ≡ schema_of v → HasUpgradeCause g old new result
    pub migrated : HasCleanDisk (state g new) → old.schema ≡ old_schema → Migrated g old new result
    pub current : HasCleanDisk (state g new) → old.schema ≡ book_schema → LeftAsItWas g old new result
    pub kept : HasCleanDisk (state g new) → IsTrue (state g old).is_open → (b : ActState) → KeepsOldBook (state g old) b
        → MigratesKept g new b result
    pub numbered : KeepsOnNumbers g old new

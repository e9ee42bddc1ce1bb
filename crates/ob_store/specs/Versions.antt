-- What the version of a book tells before its tables are read.
use Rattle.std.specs.Prelude.{◌≡◌, ◌≢◌, ◌⊎◌, ⊤, false, None, Result, Ok, Err, IsTrue, IfOk, IfErr, OnOk}
use Rattle.sqlite_trees.specs.declared.store.Store.{Ghosts}
use Rattle.sqlite.specs.Tree.{Trees}
use Rattle.sqlite.specs.Held.{Held, state}
use Rattle.sqlite.specs.State.{HasCleanDisk, IsLive, IsRolledBack, IsUnchanged, Survives}
use Rattle.ob_base.specs.declared.stop.Stop.{Stop}
use Rattle.ob_base.specs.declared.stop.Stop.TheVariants.{Refused, Fault}
use Rattle.ob_base.specs.declared.stop.Refusal.TheVariants.{BadBook, OldVersion}
use Rattle.ob_base.specs.declared.stop.Fault.TheVariants.{OutOfMemory, Store}
use Rattle.ob_sql_rows.specs.Creation.{old_schema}
use Rattle.ob_sql_rows.specs.Schema.{book_schema, no_schema}
use Rattle.ob_sql_rows.specs.Rows.{Tables}
use Rattle.ob_sql_rows.specs.Steps.{HasFaultCause}
use Rattle.ob_sql_rows.specs.Versions.{schema_of}
use Rattle.ob_sql_rows.specs.declared.version.Version.{Version}
use Rattle.ob_sql_write.specs.Keeps.{Keeps, KeepsEitherIn, KeepsIn}
use Rattle.ob_sql_read.specs.Reading.{IsMissed, IsReadFault, bad_book}
use Rattle.ob_sql_read.specs.Version.{HasVersion, IsOfBook}
use Rattle.ob_store.specs.Finding.{OnlyReads, ShowsTheSame}
use Rattle.ob_store.specs.Keeping.{HasStoreCause, IsAnswer, KeeperValue}

-- the book is of version 1
abbrev pub old_version : Stop
old_version = Refused (OldVersion 1)

-- memory was refused, the store failed, the tables aren't those of a book, or the book is of version 1
abbrev pub IsLoadFault : Stop → Type 0
IsLoadFault stop = IsReadFault stop ⊎ (stop ≡ old_version)

-- of any trees
abbrev pub AnyTrees : Trees → ⊤ → Type 0
AnyTrees trees done = ⊤

module _ {S : Type 0} (g : Ghosts S) where
  -- the columns of a heading were looked for, and nothing was read or written; what is open is a whole database, and shows what
  -- a crash leaves; an empty database has none
  pub record Looks (old new : Held S) (result : Result ⊤ Stop) : Type 0 where
    pub mode : old.in_transaction ≡ false → new.in_transaction ≡ false
    pub clean : HasCleanDisk (state g new) → HasCleanDisk (state g old)
    pub survives : Survives (state g old) (state g new) (λ _. ⊥)
    pub faults : IfErr result IsReadFault
    -- over the tables of a version the store is told to have failed only where it has
    pub cause : HasCleanDisk (state g new) → (v : Version) → old.schema ≡ schema_of v → HasFaultCause (state g old) (state g new) result
    pub whole : IsLive (state g old)
    pub left : IsTrue (state g old).is_open → (trees : Trees) → (state g old).may_leave trees
        → trees ≡ (state g old).committed.trees
    pub still : HasCleanDisk (state g new) → IsUnchanged (state g old) (state g new) ⊎ IsRolledBack (state g old) (state g new)
    pub same : HasCleanDisk (state g new) → IsAnswer result → IsUnchanged (state g old) (state g new)
    pub foreign : HasCleanDisk (state g new) → IfErr result (λ stop. stop ≡ bad_book → ¬ (IsOfBook old.schema))
    pub empty : HasCleanDisk (state g new) → old.schema ≡ no_schema → IsMissed (state g old) (state g new) result

  -- the store was asked: it keeps on the tables that it kept, of either version; an answer or a refusal comes of an open one,
  -- which then keeps the first of two; an empty database is told as that of no book
  pub record Asks {X : Type 0} (old new : Held S) (result : Result X Stop) : Type 0 where
    pub live : HasCleanDisk (state g new) → IsAnswer result → IsTrue (state g old).is_open
    pub kept : (v : Version) (t : Tables) → KeepsIn v (state g old) t → KeepsIn v (state g new) t
    pub either : (v : Version) (t u : Tables) → KeepsEitherIn v (state g old) t u → KeepsEitherIn v (state g new) t u
    pub first : HasCleanDisk (state g new) → IsAnswer result → (v : Version) (t u : Tables)
        → KeepsEitherIn v (state g old) t u → KeepsIn v (state g new) t
    pub empty : HasCleanDisk (state g new) → old.schema ≡ no_schema → IsMissed (state g old) (state g new) result

  -- the version was looked at, and then the tables; nothing was written. What was found is so of them, and where they are told
  -- to be no book's they aren't; over the tables of a book of either version it is told that it is of version 1 just where it is
  pub record Tells {X : Type 0} (Good : Trees → X → Type 0) (Bad : Trees → Type 0) (old new : Held S) (result : Result X Stop) : Type 0 where
    pub mode : old.in_transaction ≡ false → new.in_transaction ≡ false
    pub clean : HasCleanDisk (state g new) → HasCleanDisk (state g old)
    pub survives : Survives (state g old) (state g new) (λ _. ⊥)
    pub kept : (t : Tables) → Keeps (state g old) t → Keeps (state g new) t
    pub faults : IfErr result IsLoadFault
    -- over the tables of a version the store is told to have failed only where it has, or the file is broken
    pub cause : HasCleanDisk (state g new) → (v : Version) → old.schema ≡ schema_of v → HasStoreCause (state g old) (state g new) result
    pub same : HasCleanDisk (state g new) → OnOk result (old.schema ≡ book_schema → IsUnchanged (state g old) (state g new))
    pub same_bad : HasCleanDisk (state g new) → IfErr result (λ stop. (stop ≡ bad_book) ⊎ (stop ≡ old_version)
        → IsOfBook old.schema → (state g new).now ≡ (state g old).now)
    pub good : HasCleanDisk (state g new) → IfOk result (λ x. old.schema ≡ book_schema
        → (¬ (HasVersion 1 (state g old).now.trees)) × Good (state g old).now.trees x)
    pub bad : HasCleanDisk (state g new) → IfErr result (λ stop. stop ≡ bad_book → old.schema ≡ book_schema
        → (¬ (HasVersion 1 (state g old).now.trees)) × Bad (state g old).now.trees)
    pub outdated : HasCleanDisk (state g new) → IfErr result (λ stop. stop ≡ old_version → IsOfBook old.schema
        → HasVersion 1 (state g old).now.trees)
    -- the tables of version 1 are those of no book
    pub never : HasCleanDisk (state g new) → OnOk result (old.schema ≢ old_schema)
    pub lacking : HasCleanDisk (state g new) → IfErr result (λ stop. stop ≡ bad_book → old.schema ≡ old_schema
        → ¬ (HasVersion 1 (state g old).now.trees))

  -- `meta` holds one row, with version 1, which is what is told; nothing has changed
  abbrev pub IsOutdated : KeeperValue S → KeeperValue S → Type 0
  IsOutdated old new =
      HasVersion 1 (state g old.conn).now.trees × ShowsTheSame g old.conn new.conn × (new.book ≡ old.book)

  -- over the tables of version 1 a book of that version is told, and else they are those of no book
  abbrev pub Outdated : {X : Type 0} → KeeperValue S → KeeperValue S → Result X Stop → Type 0
  Outdated old new (Ok x) = ⊥
  Outdated old new (Err (Refused (OldVersion version))) = (version ≡ 1) × IsOutdated old new
  Outdated old new (Err (Refused BadBook)) =
      (¬ (HasVersion 1 (state g old.conn).now.trees)) × ShowsTheSame g old.conn new.conn × (new.book ≡ old.book)
  Outdated old new (Err (Refused refusal)) = ⊥
  Outdated old new (Err (Fault OutOfMemory)) = OnlyReads g old.conn new.conn × (new.book ≡ old.book)
  Outdated old new (Err (Fault Store)) = OnlyReads g old.conn new.conn × (new.book ≡ None)
  Outdated old new (Err (Fault fault)) = ⊥

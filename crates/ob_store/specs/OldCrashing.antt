-- What a keeper finds of a book of version 1 that its store has brought through a crash.
use Rattle.std.specs.Prelude.{◌≡◌, ◌⊎◌, ⊤, Bool, true, false, Result, Ok, Err}
use Rattle.sqlite_trees.specs.declared.store.Store.{Ghosts}
use Rattle.sqlite.specs.Held.{Held, state}
use Rattle.ob_base.specs.declared.stop.Stop.{Stop}
use Rattle.ob_base.specs.declared.stop.Stop.TheVariants.{Refused, Fault}
use Rattle.ob_book.specs.Acts.{ActState}
use Rattle.ob_sql_rows.specs.Creation.{old_schema}
use Rattle.ob_sql_read.specs.Version.{HasVersion}
use Rattle.ob_store.specs.Crashing.{OpensAfterCrash, Restores}
use Rattle.ob_store.specs.Keeping.{KeeperValue, KeepsBook}
use Rattle.ob_store.specs.Loading.{trees_in}
use Rattle.ob_store.specs.Migrating.{KeepsEitherVersion, KeepsOldBook, Migrated}

module _ {R : Type 0} (h : Ghosts R) where
  -- the store keeps the book in the tables of version 2; or memory was refused, or the store failed
  abbrev pub HasMigrated : ActState → Held R → Result Bool Stop → Type 0
  HasMigrated b new (Ok true) = KeepsBook (state h new) b
  HasMigrated b new (Ok false) = ⊥
  HasMigrated b new (Err (Refused refusal)) = ⊥
  HasMigrated b new (Err (Fault fault)) = ⊤

  -- its store shows the tables of version 1, their heading tells so, and a migration makes them those of version 2 of the book
  pub record RestoresOld (keeper : KeeperValue R) (b : ActState) : Type 0 where
    pub schema : keeper.conn.schema ≡ old_schema
    pub told : HasVersion 1 (trees_in h keeper.conn)
    pub migrates : (new : Held R) (result : Result Bool Stop) → Migrated h keeper.conn new result → HasMigrated b new result

module _ {S R : Type 0} (g : Ghosts S) (h : Ghosts R) where
  -- a keeper over what a crash left of a book of version 1 finds it there; where the crash came as the tables were made those
  -- of version 2, it finds it so, or it loads it
  abbrev pub OldCrashLaw : Type 0
  OldCrashLaw =
      (was : Held S) (keeper : KeeperValue R) → OpensAfterCrash g h was keeper.conn
      → ((b : ActState) → KeepsOldBook (state g was) b → RestoresOld h keeper b)
      × ((b : ActState) → KeepsEitherVersion (state g was) b
      → RestoresOld h keeper b ⊎ Restores h keeper (λ x. x ≡ b))

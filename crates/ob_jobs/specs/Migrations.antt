-- What a migration of a book's tables to version 2 leaves.
use Rattle.std.specs.Prelude.{◌≡◌, Bool, Result, IfErr, OnOk}
use Rattle.ob_base.specs.declared.stop.Stop.{Stop}
use Rattle.ob_sql_read.specs.Reading.{IsReadFault}
use Rattle.ob_store.specs.Calls.{CommitsUpgrade, IfStoredOld, LeavesCurrentTables, MigratesOldTables, MigratesStoredBook, MigrationAnswers, OnOldTables, OnTables, WasClean}
use Rattle.ob_store.specs.Keepers.{Ghosts, book_of}
use Rattle.ob_store.specs.Keeping.{IsBookAfter}
use Rattle.ob_store.specs.OldCrashing.{OldCrashLaw}
use Rattle.ob_store.specs.declared.keeper.Keeper.{Keeper}

module _ {S T : Type 0} {g : Ghosts S} where
  -- the tables of version 1 were to be made those of version 2: whether they were, they were so already, or why not, and what
  -- then stands
  pub record MigrationOf (old new : Keeper S T g) (done : Result Bool Stop) : Type 0 where
    pub kept_book : OnOk done (book_of new ≡ book_of old)
    pub dropped : IfErr done (IsBookAfter (book_of old) (book_of new))
    pub stops : IfErr done IsReadFault
    pub clean : WasClean old new
    pub survives : CommitsUpgrade old new
    pub goes_on : MigrationAnswers old new done
    pub migrated : OnOldTables old new (MigratesOldTables old new done)
    pub current : OnTables old new (LeavesCurrentTables old new done)
    pub kept : IfStoredOld old new (λ b. MigratesStoredBook new b done)
    pub crash : OldCrashLaw g g

-- What a keeper finds of a book that its store has brought through a crash.
use Rattle.std.specs.Prelude.{◌≡◌, ◌⊎◌, ⊤, Some, Result, Ok, Err, IsSome, IfErr, OnOk}
use Rattle.std.specs.List.{AllByRecursion}
use Rattle.sqlite_trees.specs.declared.store.Store.{Ghosts}
use Rattle.sqlite.specs.Held.{Held, state}
use Rattle.sqlite.specs.State.{HasCleanDisk, IsLive, Opens, Survives}
use Rattle.ob_base.specs.declared.stop.Stop.{Stop}
use Rattle.ob_base.specs.declared.stop.Stop.TheVariants.{Refused, Fault}
use Rattle.ob_book.specs.Acts.{ActState}
use Rattle.ob_sql_rows.specs.Creation.{old_schema}
use Rattle.ob_sql_rows.specs.Schema.{book_schema}
use Rattle.ob_sql_rows.specs.Steps.{HasFaultCause}
use Rattle.ob_sql_rows.specs.declared.version.Version.{Version}
use Rattle.ob_sql_write.specs.Keeps.{KeepsNumbers, Leaves}
use Rattle.ob_record.specs.Naming.{IsReferenced}
use Rattle.ob_record.specs.Tables.{tables_of}
use Rattle.ob_store.specs.Books.{IsReachedIn}
use Rattle.ob_store.specs.Keeping.{Answers, IsBookAfter, KeeperValue, KeepsBook, KeepsEitherBook, Ties}
use Rattle.ob_store.specs.Loading.{Loaded}
use Rattle.ob_store.specs.Versions.{IsLoadFault, Outdated}

module _ {R : Type 0} (h : Ghosts R) where
  -- the keeper has a book of this kind, which its store keeps; or memory was refused, or the store failed
  abbrev pub HasLoaded : (ActState → Type 0) → KeeperValue R → Result ⊤ Stop → Type 0
  HasLoaded Is new (Ok done) = (b : ActState) × Is b × Ties h new b × (new.book ≡ Some b.book)
  HasLoaded Is new (Err (Refused refusal)) = ⊥
  HasLoaded Is new (Err (Fault fault)) = ⊤

  -- its store shows the tables of a book, and what it loads from them is a book of this kind
  pub record Restores (keeper : KeeperValue R) (Is : ActState → Type 0) : Type 0 where
    pub schema : keeper.conn.schema ≡ book_schema
    pub loads : (new : KeeperValue R) (result : Result ⊤ Stop) → Loaded h keeper new result → HasLoaded Is new result

  -- a keeper over a connection that was just opened, and shows the tables of a book of version 2, loads that book; its commands
  -- are those that either version accepted
  abbrev pub LeftLaw : Type 0
  LeftLaw =
      (keeper : KeeperValue R) (version : Version) (b : ActState) → Opens (state h keeper.conn) → IsLive (state h keeper.conn)
      → Leaves (tables_of b) (state h keeper.conn).now.trees → IsReachedIn version b → AllByRecursion IsReferenced b.accepted
      → Restores keeper (λ x. x ≡ b)

module _ {S R : Type 0} (g : Ghosts S) (h : Ghosts R) where
  -- a connection that was just opened shows what a crash left of a store whose disk had returned what was written
  pub record OpensAfterCrash (was : Held S) (conn : Held R) : Type 0 where
    pub clean : HasCleanDisk (state g was)
    pub left : (state g was).may_leave (state h conn).now.trees
    -- as each open promises
    pub opens : Opens (state h conn)
    pub live : IsLive (state h conn)

  -- a keeper over what a crash left loads the book that the store kept, and where the store kept either of two, one of these;
  -- and the hidden row numbers that a crash leaves are left by the next one as well
  abbrev pub CrashLaw : Type 0
  CrashLaw =
      (was : Held S) (keeper : KeeperValue R) → OpensAfterCrash was keeper.conn
      → ((b : ActState) → KeepsBook (state g was) b → Restores h keeper (λ x. x ≡ b))
      × ((b c : ActState) → KeepsEitherBook (state g was) b c → Restores h keeper (λ x. (x ≡ b) ⊎ (x ≡ c)))
      × (KeepsNumbers (state g was) → KeepsNumbers (state h keeper.conn))

module _ {S : Type 0} (g : Ghosts S) where
  -- the tables were read: a book was found in them, or it is told why not, and nothing was written
  pub record Loads (old new : KeeperValue S) (result : Result ⊤ Stop) : Type 0 where
    pub found : OnOk result (IsSome new.book)
    pub dropped : IfErr result (IsBookAfter old.book new.book)
    pub stops : IfErr result IsLoadFault
    pub clean : HasCleanDisk (state g new.conn) → HasCleanDisk (state g old.conn)
    pub survives : Survives (state g old.conn) (state g new.conn) (λ _. ⊥)
    -- whatever the schema
    pub answers : Answers g old.conn new.conn result
    pub loaded : HasCleanDisk (state g new.conn) → old.conn.schema ≡ book_schema → Loaded g old new result
    pub outdated : HasCleanDisk (state g new.conn) → old.conn.schema ≡ old_schema → Outdated g old new result
    pub crash : CrashLaw g g

  -- a load on a keeper whose store keeps a book, or while it is open the first of two, gives that book; or memory was refused, or
  -- the store failed, for a cause
  abbrev pub LoadLaw : Type 0
  LoadLaw =
      (old new : KeeperValue S) (result : Result ⊤ Stop) → Loads old new result → HasCleanDisk (state g new.conn)
      → ((b : ActState) → KeepsBook (state g old.conn) b → HasLoaded g (λ x. x ≡ b) new result)
      × ((b c : ActState) → KeepsEitherBook (state g old.conn) b c → HasLoaded g (λ x. x ≡ b) new result)
      × ((b : ActState) → KeepsBook (state g old.conn) b → HasFaultCause (state g old.conn) (state g new.conn) result)
      × ((b c : ActState) → KeepsEitherBook (state g old.conn) b c → HasFaultCause (state g old.conn) (state g new.conn) result)

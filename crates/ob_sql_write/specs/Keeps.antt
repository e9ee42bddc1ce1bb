-- The tables that a store keeps, and what a crash leaves of them; what statements over an open store make of them.
use Rattle.std.specs.Prelude.{◌≡◌, ◌⊎◌, Result, IsTrue, IfErr, OnOk}
use Rattle.std.specs.Borrow.{MutBor}
use Rattle.sqlite_trees.specs.declared.store.Store.{Ghosts}
use Rattle.sqlite.specs.Tree.{Trees}
use Rattle.sqlite_catalog.specs.Listing.{IsSound}
use Rattle.sqlite.specs.Effect.{IsDatabase}
use Rattle.sqlite.specs.Held.{Held, state}
use Rattle.sqlite.specs.State.{State, HasCleanDisk, IsRolledBack}
use Rattle.ob_base.specs.declared.stop.Stop.{Stop}
use Rattle.ob_base.specs.declared.stop.Stop.TheVariants.{Fault}
use Rattle.ob_base.specs.declared.stop.Fault.TheVariants.{Store}
use Rattle.ob_sql_rows.specs.Rows.{Holds, Tables}
use Rattle.ob_sql_rows.specs.Rules.{AreNumbered}
use Rattle.ob_sql_rows.specs.Schema.{book_schema}
use Rattle.ob_sql_rows.specs.Versions.{HoldsIn, schema_of}
use Rattle.ob_sql_rows.specs.declared.version.Version.{Version}
use Rattle.ob_sql_rows.specs.declared.version.Version.TheVariants.{Two}
use Rattle.ob_sql_rows.specs.Steps.{Silent, Makes, IsStoreFault, HasFailed, LetsIn}

-- a whole database of a version: its catalog lists the version's tables, whose rules its rows obey, and these are the rows
pub record LeavesIn (version : Version) (t : Tables) (trees : Trees) : Type 0 where
  pub sound : IsSound (schema_of version) trees
  pub holds : HoldsIn version trees t

-- it shows these tables of a version, and has committed them
pub record IsSettledIn (version : Version) (s : State) (t : Tables) : Type 0 where
  pub schema : s.now.schema ≡ schema_of version
  pub committed : s.committed ≡ s.now
  pub holds : HoldsIn version s.now.trees t

-- the store keeps these tables of a version, and so does whatever a crash leaves
pub record KeepsIn (version : Version) (s : State) (t : Tables) : Type 0 where
  pub settled : HasCleanDisk s → IsTrue s.is_open → IsSettledIn version s t
  pub left : HasCleanDisk s → (trees : Trees) → s.may_leave trees → LeavesIn version t trees

-- the same of the version that is written
abbrev pub Leaves : Tables → Trees → Type 0
Leaves t trees = LeavesIn Two t trees

abbrev pub IsSettled : State → Tables → Type 0
IsSettled s t = IsSettledIn Two s t

abbrev pub Keeps : State → Tables → Type 0
Keeps s t = KeepsIn Two s t

-- while it is open it keeps the first ones, of this version; a crash leaves these, or the others, of the version that
-- is written
pub record KeepsEitherIn (version : Version) (s : State) (t u : Tables) : Type 0 where
  pub settled : HasCleanDisk s → IsTrue s.is_open → IsSettledIn version s t
  pub left : HasCleanDisk s → (trees : Trees) → s.may_leave trees → LeavesIn version t trees ⊎ Leaves u trees

abbrev pub KeepsEither : State → Tables → Tables → Type 0
KeepsEither s t u = KeepsEitherIn Two s t u

-- the tables with the change, of tables of this version that the store kept and that were as is needed
abbrev pub LeavesChangedIn : Version → State → (Tables → Type 0) → (Tables → Tables) → Trees → Type 0
LeavesChangedIn version s needs change trees = (t : Tables) → KeepsIn version s t → needs t → Leaves (change t) trees

abbrev pub LeavesChanged : State → (Tables → Type 0) → (Tables → Tables) → Trees → Type 0
LeavesChanged s needs change trees = LeavesChangedIn Two s needs change trees

-- inside a transaction over the tables of this version those of the version that is written were made of them so, where
-- they were as is needed
pub record MakesOf (version : Version) (old new : State) (needs : Tables → Type 0) (change : Tables → Tables)
    : Type 0 where
  pub live : IsTrue old.is_open
  pub stays : IsTrue new.is_open
  pub inside : IsTrue new.in_transaction
  pub schema : old.now.schema ≡ schema_of version → new.now.schema ≡ book_schema
  -- a whole database stays one
  pub sound : old.now.schema ≡ schema_of version → IsDatabase old.now → IsDatabase new.now
  pub holds : old.now.schema ≡ schema_of version → (tables : Tables) → HoldsIn version old.now.trees tables → needs tables
      → Holds new.now.trees (change tables)
  pub numbered : old.now.schema ≡ schema_of version → (tables : Tables) → HoldsIn version old.now.trees tables
      → needs tables → AreNumbered old.now.trees → AreNumbered new.now.trees

-- whatever a crash leaves has hidden row numbers 1, 2, 3 and so on, and so has what the store keeps while it is open
abbrev pub KeepsNumbers : State → Type 0
KeepsNumbers s = HasCleanDisk s → (trees : Trees) → s.may_leave trees → AreNumbered trees

module _ {S : Type 0} (g : Ghosts S) where
  -- a transaction that showed these tables was undone
  abbrev pub WasUndone : State → Tables → Type 0
  WasUndone s t = (last : Held S) × Holds (state g last).now.trees t × IsRolledBack (state g last) s

  -- why the store fails to commit these tables: it has failed, or their transaction was undone, as for want of memory
  abbrev pub HasCommitCause : State → State → Tables → Type 0
  HasCommitCause old new t = HasFailed old new ⊎ WasUndone new t

  -- statements inside a transaction of an open store changed the tables so, where they were as is needed, or one
  -- failed, which it does only with a cause where the rules of the tables let the change in; nothing was committed
  pub record ChangesOpen {X : Type 0} (old new : MutBor (Held S)) (result : Result X Stop) (needs lets : Tables → Type 0)
      (change : Tables → Tables) : Type 0 where
    pub same_reference : new.ghost_name ≡ old.ghost_name
    pub silent : Silent (state g old.now) (state g new.now)
    pub faults : IfErr result IsStoreFault
    pub makes : HasCleanDisk (state g new.now) → OnOk result (IsTrue (state g old.now).is_open
        → IsTrue (state g old.now).in_transaction → Makes (state g old.now) (state g new.now) needs change)
    pub cause : HasCleanDisk (state g new.now) → IfErr result (λ stop. stop ≡ Fault Store
        → IsTrue (state g old.now).in_transaction → LetsIn (state g old.now) needs lets
        → HasFailed (state g old.now) (state g new.now))

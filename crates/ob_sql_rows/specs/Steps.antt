-- What statements inside a transaction make of the tables.
use Rattle.std.specs.Prelude.{◌≡◌, ◌≢◌, ◌⊎◌, ℕ, List, Result, IsTrue, IsSome, Ok, Err, true, IfErr, OnOk, Bool, filter}
use Rattle.std.specs.List.Sorted.{IsPermutation}
use Rattle.sqlite.specs.Order.{Row}
use Rattle.sqlite.specs.declared.error.Error.{Error}
use Rattle.sqlite.specs.declared.error.Error.TheVariants.{SqliteFailure}
use Rattle.sqlite.specs.declared.error.ErrorCode.TheVariants as code
use Rattle.std.specs.Borrow.{MutBor}
use Rattle.sqlite_trees.specs.declared.store.Store.{Ghosts}
use Rattle.sqlite.specs.Effect.{IsDatabase}
use Rattle.sqlite.specs.Held.{Held, state}
use Rattle.sqlite.specs.State.{State, HasCause, HasCleanDisk, Survives, KeepsCommit, Executes, ExecutesInside, Shows}
use Rattle.sqlite_trees.specs.declared.error.StoreError.TheVariants.{Io, Broken}
use Rattle.ob_base.specs.Stop.{out_of_memory}
use Rattle.ob_base.specs.declared.stop.Stop.{Stop}
use Rattle.ob_base.specs.declared.stop.Stop.TheVariants.{Fault}
use Rattle.ob_base.specs.declared.stop.Fault.TheVariants.{Store}
use Rattle.ob_sql_rows.specs.Schema.{book_schema}
use Rattle.ob_sql_rows.specs.Rows.{Columns, Tables, Holds, Always}
use Rattle.ob_sql_rows.specs.Rules.{AreNumbered}
use Rattle.ob_sql_rows.specs.declared.table.Table.{Table}

-- memory was refused, or the store failed
abbrev pub IsStoreFault : Stop → Type 0
IsStoreFault stop = (stop ≡ out_of_memory) ⊎ (stop ≡ Fault Store)

-- why the store fails: the disk failed or refused meanwhile, the store was shut before, or its queries may take so many
-- steps only
abbrev pub HasFailed : State → State → Type 0
HasFailed old new = HasCause old new ⊥ Io ⊎ (HasCause old new ⊥ Broken ⊎ IsSome old.step_limit)

-- where the store is told to have failed, it has
abbrev pub HasFaultCause : {X : Type 0} → State → State → Result X Stop → Type 0
HasFaultCause old new result = IfErr result (λ stop. stop ≡ Fault Store → HasFailed old new)

-- nothing was committed
pub record Silent (old new : State) : Type 0 where
  pub survives : Survives old new (λ _. ⊥)
  pub kept : HasCleanDisk new → KeepsCommit old new

-- a statement ran in a transaction
abbrev pub Ran : List ℕ → Row → State → State → Type 0
Ran sql params old new = (count : ℕ) × Executes sql params old new (Ok count) × Shows old new new.now old.committed true

-- a statement failed in a transaction, and not for want of memory
abbrev pub Failed : List ℕ → Row → State → State → Type 0
Failed sql params old new =
    (e : Error) × (e ≢ SqliteFailure code.OutOfMemory) × ExecutesInside 0 sql params old new (Err e)

-- a whole database of the book's tables, whose hidden row numbers rise by one, has these rows; they are as is needed, and
-- the rules of the tables let the change in
pub record LetsIn (s : State) (needs lets : Tables → Type 0) : Type 0 where
  pub schema : s.now.schema ≡ book_schema
  pub sound : IsDatabase s.now
  pub numbered : AreNumbered s.now.trees
  pub tables : Tables
  pub holds : Holds s.now.trees tables
  pub needed : needs tables
  pub allowed : lets tables

-- inside a transaction over the book's tables, their rows were changed so; where they were as is needed
pub record Makes (old new : State) (needs : Tables → Type 0) (change : Tables → Tables) : Type 0 where
  pub live : IsTrue old.is_open
  pub stays : IsTrue new.is_open
  pub inside : IsTrue new.in_transaction
  pub schema : old.now.schema ≡ book_schema → new.now.schema ≡ book_schema
  -- a database stays whole: it lists its tables, and they obey their rules
  pub sound : old.now.schema ≡ book_schema → IsDatabase old.now → IsDatabase new.now
  pub holds : old.now.schema ≡ book_schema → (tables : Tables) → Holds old.now.trees tables → needs tables
      → Holds new.now.trees (change tables)
  -- the hidden row numbers go on by one
  pub numbered : old.now.schema ≡ book_schema → (tables : Tables) → Holds old.now.trees tables → needs tables
      → AreNumbered old.now.trees → AreNumbered new.now.trees

-- these are the rows of a table that pass, in some order
abbrev pub Finds : State → Table → (Columns → Bool) → List Row → Type 0
Finds s table test rows = s.now.schema ≡ book_schema → (tables : Tables) → Holds s.now.trees tables
    → IsPermutation (filter test (tables table)) rows

module _ {S : Type 0} (g : Ghosts S) where
  -- a text ran inside a transaction, or failed; nothing was committed
  pub record Runs {X : Type 0} (sql : List ℕ) (params : Row) (old new : MutBor (Held S)) (result : Result X Stop) : Type 0 where
    pub same_reference : new.ghost_name ≡ old.ghost_name
    pub silent : Silent (state g old.now) (state g new.now)
    pub faults : IfErr result IsStoreFault
    pub ran : HasCleanDisk (state g new.now) → OnOk result (IsTrue (state g old.now).in_transaction
        → Ran sql params (state g old.now) (state g new.now))
    pub fails : HasCleanDisk (state g new.now) → IfErr result (λ stop. stop ≡ Fault Store
        → IsTrue (state g old.now).in_transaction → Failed sql params (state g old.now) (state g new.now))

  -- a statement inside a transaction changed the tables so, where they were as is needed, or it failed, which it does
  -- only with a cause where the rules of the tables let the change in; nothing was committed
  pub record Changes {X : Type 0} (old new : MutBor (Held S)) (result : Result X Stop) (needs lets : Tables → Type 0)
      (change : Tables → Tables) : Type 0 where
    pub same_reference : new.ghost_name ≡ old.ghost_name
    pub silent : Silent (state g old.now) (state g new.now)
    pub faults : IfErr result IsStoreFault
    pub makes : HasCleanDisk (state g new.now) → OnOk result (IsTrue (state g old.now).in_transaction
        → Makes (state g old.now) (state g new.now) needs change)
    pub cause : HasCleanDisk (state g new.now) → IfErr result (λ stop. stop ≡ Fault Store
        → IsTrue (state g old.now).in_transaction → LetsIn (state g old.now) needs lets
        → HasFailed (state g old.now) (state g new.now))

  -- a query inside a transaction answered and changed nothing, or it failed; nothing was committed
  pub record Reads {X : Type 0} (old new : MutBor (Held S)) (result : Result X Stop) : Type 0 where
    pub same_reference : new.ghost_name ≡ old.ghost_name
    pub silent : IsTrue (state g old.now).in_transaction → Silent (state g old.now) (state g new.now)
    pub faults : IfErr result IsStoreFault
    -- whatever the schema
    pub live : HasCleanDisk (state g new.now) → OnOk result (IsTrue (state g old.now).is_open)
    pub stays : HasCleanDisk (state g new.now) → OnOk result ((state g old.now).now.schema ≡ book_schema
        → IsTrue (state g old.now).in_transaction → Makes (state g old.now) (state g new.now) Always (λ tables. tables))

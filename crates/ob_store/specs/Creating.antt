-- What the making of a new book leaves.
use Rattle.std.specs.Prelude.{◌≡◌, ◌≢◌, ◌⊎◌, ⊤, ℕ, List, Some, None, Result, Ok, Err, IsTrue, IfErr}
use Rattle.sqlite_trees.specs.declared.store.Store.{Ghosts}
use Rattle.sqlite.specs.Held.{Held, state}
use Rattle.sqlite.specs.State.{State, HasCleanDisk}
use Rattle.ob_base.specs.declared.stop.Stop.{Stop}
use Rattle.ob_base.specs.declared.stop.Stop.TheVariants.{Refused, Fault}
use Rattle.ob_base.specs.declared.stop.Refusal.TheVariants.{BadPeriod, BadBook}
use Rattle.ob_base.specs.declared.stop.Fault.TheVariants.{OutOfMemory, Store}
use Rattle.ob_time.specs.Calendar.{Calendar}
use Rattle.ob_time.specs.Period.{IsPeriodText}
use Rattle.ob_state.specs.State.{empty_book}
use Rattle.ob_state.specs.States.{BookValue}
use Rattle.ob_book.specs.Acts.{start}
use Rattle.ob_sql_rows.specs.Schema.{no_schema}
use Rattle.ob_sql_rows.specs.Steps.{HasFailed}
use Rattle.ob_sql_write.specs.Begins.{Stays, StaysOrBegins}
use Rattle.ob_sql_write.specs.Keeps.{WasUndone}
use Rattle.ob_record.specs.Reached.{IsReached}
use Rattle.ob_record.specs.Tables.{tables_of}
use Rattle.ob_store.specs.Keeping.{KeeperValue, KeepsBook, KeepsOn, Ties}

-- no period is that of these texts
abbrev pub HasNoPeriodText : List ℕ → ℕ → List ℕ → Type 0
HasNoPeriodText first days zone = (p : Calendar) → ¬ (IsPeriodText first days zone p)

-- the database held nothing, and the store was open
pub record HeldNothing (old new : State) : Type 0 where
  pub schema : old.now.schema ≡ no_schema
  pub live : HasCleanDisk new → IsTrue old.is_open

module _ {S : Type 0} (g : Ghosts S) where
  -- the store is as it was, and so is what a crash leaves
  pub record LeavesAll (old new : Held S) : Type 0 where
    pub stays : Stays (state g old) (state g new)
    pub keeps : KeepsOn (state g old) (state g new)

  -- what is left of a fault of the store: what was, or, where the store was open and its database held nothing, a new book of the
  -- period
  abbrev pub MayBegin : Held S → Held S → List ℕ → ℕ → List ℕ → Type 0
  MayBegin old new first days zone =
      (p : Calendar) × IsPeriodText first days zone p × IsReached (start p) × KeepsOn (state g old) (state g new)
      × StaysOrBegins (state g old) (state g new) (tables_of (start p))

  -- a new book of the period that the texts name, in the store, which held nothing, and in memory; or why there is none
  abbrev pub Creates : Held S → Held S → List ℕ → ℕ → List ℕ → Result BookValue Stop → Type 0
  Creates old new first days zone (Ok book) =
      (p : Calendar) × IsPeriodText first days zone p × HeldNothing (state g old) (state g new)
      × KeepsBook (state g new) (start p) × (book.state ≡ empty_book p)
  Creates old new first days zone (Err (Refused BadPeriod)) = HasNoPeriodText first days zone × LeavesAll old new
  Creates old new first days zone (Err (Refused BadBook)) =
      (p : Calendar) × IsPeriodText first days zone p × ((state g old).now.schema ≢ no_schema) × LeavesAll old new
  Creates old new first days zone (Err (Refused refusal)) = ⊥
  Creates old new first days zone (Err (Fault OutOfMemory)) = LeavesAll old new
  Creates old new first days zone (Err (Fault Store)) = MayBegin old new first days zone
  Creates old new first days zone (Err (Fault fault)) = ⊥

  -- the same of a keeper; after a fault of the store it has no book
  abbrev pub Created : KeeperValue S → KeeperValue S → List ℕ → ℕ → List ℕ → Result ⊤ Stop → Type 0
  Created old new first days zone (Ok done) =
      (p : Calendar) × IsPeriodText first days zone p × HeldNothing (state g old.conn) (state g new.conn)
      × Ties g new (start p) × (new.book ≡ Some (empty_book p))
  Created old new first days zone (Err (Refused BadPeriod)) =
      HasNoPeriodText first days zone × LeavesAll old.conn new.conn × (new.book ≡ old.book)
  Created old new first days zone (Err (Refused BadBook)) =
      (p : Calendar) × IsPeriodText first days zone p × ((state g old.conn).now.schema ≢ no_schema)
      × LeavesAll old.conn new.conn × (new.book ≡ old.book)
  Created old new first days zone (Err (Refused refusal)) = ⊥
  Created old new first days zone (Err (Fault OutOfMemory)) = LeavesAll old.conn new.conn × (new.book ≡ old.book)
  Created old new first days zone (Err (Fault Store)) =
      MayBegin old.conn new.conn first days zone × (new.book ≡ None)
  Created old new first days zone (Err (Fault fault)) = ⊥

  -- where the store is told to have failed, it has; or the transaction that showed the tables of a new book of the period was
  -- undone, as for want of memory
  abbrev pub HasCreateCause : {X : Type 0} → Held S → Held S → List ℕ → ℕ → List ℕ → Result X Stop → Type 0
  HasCreateCause old new first days zone result =
      IfErr result (λ stop. stop ≡ Fault Store → HasFailed (state g old) (state g new)
      ⊎ ((p : Calendar) × IsPeriodText first days zone p × WasUndone g (state g new) (tables_of (start p))))

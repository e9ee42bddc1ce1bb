-- What a look at the rows that a transaction shows leaves of it.
use Rattle.std.specs.Prelude.{◌≡◌, Result, IsTrue, IfErr, OnOk}
use Rattle.std.specs.Borrow.{MutBor}
use Rattle.sqlite_trees.specs.declared.store.Store.{Ghosts}
use Rattle.sqlite.specs.Held.{Held, state}
use Rattle.sqlite.specs.State.{HasCleanDisk}
use Rattle.ob_base.specs.declared.stop.Stop.{Stop}
use Rattle.ob_sql_rows.specs.Rows.{Always}
use Rattle.ob_sql_rows.specs.Schema.{book_schema}
use Rattle.ob_sql_rows.specs.Steps.{IsStoreFault, Makes, Silent}

module _ {S : Type 0} (g : Ghosts S) where
  -- rows were looked at inside a transaction, or that failed; nothing was written, and the transaction stays open after an answer
  pub record Looks {X : Type 0} (old new : MutBor (Held S)) (result : Result X Stop) : Type 0 where
    pub same_reference : new.ghost_name ≡ old.ghost_name
    pub silent : (HasCleanDisk (state g old.now) → IsTrue (state g old.now).in_transaction)
        → Silent (state g old.now) (state g new.now)
    pub faults : IfErr result IsStoreFault
    -- whatever the schema
    pub live : HasCleanDisk (state g new.now) → OnOk result (IsTrue (state g old.now).is_open)
    pub inside : HasCleanDisk (state g new.now)
        → OnOk result (IsTrue (state g old.now).in_transaction → IsTrue (state g new.now).in_transaction)
    pub stays : HasCleanDisk (state g new.now) → OnOk result ((state g old.now).now.schema ≡ book_schema
        → IsTrue (state g old.now).in_transaction → Makes (state g old.now) (state g new.now) Always (λ tables. tables))

-- A look at rows inside a transaction leaves it open.
use Rattle.std.proofs.Common.{◌≡◌, ℕ, List, Option, Some, None, inr}
use Rattle.std.specs.Prelude.{Result, Ok, Err, IfErr}
use Rattle.std.specs.Borrow.{MutBor}
use Rattle.sqlite_trees.specs.declared.store.Store.{Ghosts}
use Rattle.sqlite.specs.Clock.{timed}
use Rattle.sqlite.specs.Held.{Held}
use Rattle.sqlite.specs.Order.{Row}
use Rattle.sqlite.specs.State.{State, Shown, ShowsRows}
use Rattle.sqlite_resolve.specs.declared.compiled.Compiled.{Compiled}
use Rattle.sqlite_schema.specs.declared.command.Returning.{Returning}
use Rattle.ob_base.specs.declared.stop.Stop.{Stop}
use Rattle.ob_sql_rows.specs.Steps.{IsStoreFault}
use Rattle.ob_sql_write.specs.Known.{store_fault}
use Rattle.ob_sql_write.specs.Within.{Looks}

inside_rows : (old new : State) (sql : List ℕ) (c : Compiled) (params : Row) (rows : List Row) (o : Option Returning) → ShowsRows old new sql c params rows o → new.in_transaction ≡ old.in_transaction
inside_rows old new sql c params rows None h = h.3.0.mode
inside_rows old new sql c params rows (Some what) h = h.1.shown.mode

pub inside_read : (old new : State) (sql : List ℕ) (params : Row) (rows : List Row) → Shown sql params old new rows → new.in_transaction ≡ old.in_transaction
unfolding Shown
inside_read old new sql params rows h = inside_rows old new sql h.0 (timed params h.0.formats h.1.now) rows h.0.returning h.2

-- what was found is told, or that it is none that a book has
pub told : {S X Y : Type 0} (g : Ghosts S) (old new : MutBor (Held S)) (x : X) (r : Result Y Stop) → IfErr r IsStoreFault → Looks g old new (Ok x) → Looks g old new r
told g old new x (Ok y) faults it = record { same_reference = it.same_reference; silent = it.silent; faults = tt; live = it.live; inside = it.inside; stays = it.stays }
told g old new x (Err stop) faults it = record { same_reference = it.same_reference; silent = it.silent; faults = faults; live = λ clean. tt; inside = λ clean. tt; stays = λ clean. tt }

-- a failure is passed on
pub passed : {S X Y : Type 0} (g : Ghosts S) (old new : MutBor (Held S)) (stop : Stop) → Looks g {X = X} old new (Err stop) → Looks g {X = Y} old new (Err stop)
passed g old new stop it = record { same_reference = it.same_reference; silent = it.silent; faults = it.faults; live = λ clean. tt; inside = λ clean. tt; stays = λ clean. tt }

-- rows that no book has are told as a fault of the store
pub told_fault : {Y : Type 0} (r : Result Y Stop) → IfErr r (λ stop. stop ≡ store_fault) → IfErr r IsStoreFault
told_fault (Ok y) fault = tt
told_fault (Err stop) fault = inr fault

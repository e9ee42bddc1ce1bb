-- A text that ran as a statement of the tables.
use Rattle.std.proofs.Common.{ℕ, List}
use Rattle.std.specs.Prelude.{Result, Ok, Err, IfErr, OnOk}
use Rattle.std.specs.Borrow.{MutBor}
use Rattle.sqlite_trees.specs.declared.store.Store.{Ghosts}
use Rattle.sqlite.specs.Order.{Row}
use Rattle.sqlite.specs.Held.{Held, state}
use Rattle.ob_base.specs.declared.stop.Stop.{Stop}
use Rattle.ob_sql_rows.specs.Rows.{Tables}
use Rattle.ob_sql_rows.specs.Steps.{Ran, Failed, Runs, Makes, LetsIn, HasFailed, Changes}
use Rattle.ob_sql_rows.specs.Creation.{Creates}
use Rattle.sqlite.specs.State.{State}

on_ok : {X E : Type 0} (r : Result X E) {P Q : Type 0} → OnOk r P → (P → Q) → OnOk r Q
on_ok (Ok x) h f = f h
on_ok (Err e) h f = h

on_err : {X E : Type 0} (r : Result X E) {P Q : E → Type 0} → IfErr r P → ((e : E) → P e → Q e) → IfErr r Q
on_err (Ok x) h f = h
on_err (Err e) h f = f e h

pub changes : {S X : Type 0} (g : Ghosts S) (old new : MutBor (Held S)) (result : Result X Stop) (sql : List ℕ) (params : Row) {needs lets : Tables → Type 0} {change : Tables → Tables}
    → Runs g sql params old new result → (Ran sql params (state g old.now) (state g new.now) → Makes (state g old.now) (state g new.now) needs change)
    → (Failed sql params (state g old.now) (state g new.now) → LetsIn (state g old.now) needs lets → HasFailed (state g old.now) (state g new.now)) → Changes g old new result needs lets change
changes g old new result sql params runs makes cause = record {
  same_reference = runs.same_reference;
  silent = runs.silent;
  faults = runs.faults;
  makes = λ clean. on_ok result (runs.ran clean) (λ ran inside. makes (ran inside));
  cause = λ clean. on_err result (runs.fails clean) (λ stop fails store inside lets. cause (fails store inside) lets);
}

pub creates : {S X : Type 0} (g : Ghosts S) (old new : MutBor (Held S)) (result : Result X Stop) (sql : List ℕ) (params : Row) (Lets : State → Type 0) (Made : State → State → Type 0)
    → Runs g sql params old new result → (Ran sql params (state g old.now) (state g new.now) → Made (state g old.now) (state g new.now))
    → (Failed sql params (state g old.now) (state g new.now) → Lets (state g old.now) → HasFailed (state g old.now) (state g new.now)) → Creates g old new result Lets Made
creates g old new result sql params Lets Made runs makes cause = record {
  same_reference = runs.same_reference;
  silent = runs.silent;
  faults = runs.faults;
  creates = λ clean. on_ok result (runs.ran clean) (λ ran inside. makes (ran inside));
  cause = λ clean. on_err result (runs.fails clean) (λ stop fails store inside lets. cause (fails store inside) lets);
}

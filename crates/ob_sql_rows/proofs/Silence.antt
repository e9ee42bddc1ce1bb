-- A step inside a transaction commits nothing, also where it fails.
use Rattle.std.proofs.Common.{◌≡◌, ◌⊎◌, inl, inr, ℕ, List, Option, Some, None, true, refl, ap, ◌∙◌, arith}
use Rattle.std.specs.Prelude.{if◌then◌else◌}
use Rattle.sqlite.proofs.StateLemmas.{survives_then}
use Rattle.ob_sql_rows.specs.Steps.{Silent}
use Rattle.sqlite.specs.Clock.{timed}
use Rattle.sqlite_resolve.specs.declared.compiled.Compiled.{Compiled}
use Rattle.sqlite_schema.specs.declared.command.Returning.{Returning}
use Rattle.std.specs.Prelude.{Err}
use Rattle.sqlite.specs.Order.{Row}
use Rattle.sqlite.specs.declared.error.Error.{Error}
use Rattle.sqlite.specs.State.{State, HasCleanDisk, KeepsCommit, IsUnchanged, IsRolledBack, ExecutesInside, IsNotRun, FailsToShow, FailsToQuery, IsTooLate, ShowsRows, Shown}

pub silent_same : (a : State) → Silent a a
silent_same a = record {
  survives = record { clean = omega arith; shield = λ x. x; counts = omega arith; limit = refl; closes = λ clean live. inl live; crash = λ clean db may. inl may };
  kept = λ clean. record { was_open = λ live. live; committed = λ live. refl };
}

pub silent_then : (a b c : State) → Silent a b → Silent b c → Silent a c
silent_then a b c one two = record {
  survives = survives_then a b c _ _ (λ _. ⊥) (λ _ db none. none) (λ _ db none. none) one.survives two.survives;
  kept = λ clean.
      let early : HasCleanDisk b = omega (arith, two.survives.clean, clean) in
      record {
        was_open = λ live. (one.kept early).was_open ((two.kept clean).was_open live);
        committed = λ live. (two.kept clean).committed live ∙ (one.kept early).committed ((two.kept clean).was_open live);
      };
}

pub kept_same : (old new : State) → IsUnchanged old new → KeepsCommit old new
kept_same old new h = record { was_open = λ live. h.0.was_open; committed = λ live. h.0.committed_is }

pub kept_back : (old new : State) → IsRolledBack old new → KeepsCommit old new
kept_back old new h = record { was_open = h.was_open; committed = λ live. (h.undone live).1 }

pub kept_failing : (sql : List ℕ) (params : Row) (old new : State) (e : Error) → ExecutesInside 0 sql params old new (Err e) → KeepsCommit old new
kept_failing sql params old new e (inl (h, inl same)) = kept_same old new same
kept_failing sql params old new e (inl (h, inr back)) = kept_back old new back
kept_failing sql params old new e (inr h) = kept_same old new h.2

-- a query inside a transaction commits nothing
kept_not_run : (old new : State) (sql : List ℕ) (params : Row) (e : Error) → IsNotRun old new sql params e → KeepsCommit old new
unfolding IsNotRun
kept_not_run old new sql params e (inl h) = kept_same old new h.1
kept_not_run old new sql params e (inr f) = kept_back old new f.3

kept_unshown : (old new : State) (sql : List ℕ) (c : Compiled) (params : Row) (e : Error) (o : Option Returning) → FailsToShow old new sql c params e o → KeepsCommit old new
kept_unshown old new sql c params e None f = kept_same old new f.3
kept_unshown old new sql c params e (Some what) (inl h) = kept_same old new h.1
kept_unshown old new sql c params e (Some what) (inr f) = kept_back old new f.3

pub kept_unread : (old new : State) (sql : List ℕ) (params : Row) (e : Error) → FailsToQuery sql params old new e ⊎ IsTooLate sql params old new e → KeepsCommit old new
unfolding FailsToQuery
kept_unread old new sql params e (inl (inl h)) = kept_not_run old new sql params e h
kept_unread old new sql params e (inl (inr h)) = kept_unshown old new sql h.0 (timed params h.0.formats h.1.now) e h.0.returning h.2
kept_unread old new sql params e (inr h) = kept_same old new h.5

kept_rows : (old new : State) (sql : List ℕ) (c : Compiled) (params : Row) (rows : List Row) (o : Option Returning) → old.in_transaction ≡ true → ShowsRows old new sql c params rows o → KeepsCommit old new
kept_rows old new sql c params rows None inside h = kept_same old new h.3
kept_rows old new sql c params rows (Some what) inside h = record {
  was_open = λ live. h.1.shown.was_open;
  committed = λ live. h.1.shown.committed_is ∙ ap (λ b. if b then old.committed else new.now) inside;
}

pub kept_read : (old new : State) (sql : List ℕ) (params : Row) (rows : List Row) → old.in_transaction ≡ true → Shown sql params old new rows → KeepsCommit old new
unfolding Shown
kept_read old new sql params rows inside h = kept_rows old new sql h.0 (timed params h.0.formats h.1.now) rows h.0.returning inside h.2

live_rows : (old new : State) (sql : List ℕ) (c : Compiled) (params : Row) (rows : List Row) (o : Option Returning) → ShowsRows old new sql c params rows o → old.is_open ≡ true
live_rows old new sql c params rows None h = h.3.0.was_open
live_rows old new sql c params rows (Some what) h = h.1.shown.was_open

-- rows are shown only where the store was open, whatever its schema
pub live_read : (old new : State) (sql : List ℕ) (params : Row) (rows : List Row) → Shown sql params old new rows → old.is_open ≡ true
unfolding Shown
live_read old new sql params rows h = live_rows old new sql h.0 (timed params h.0.formats h.1.now) rows h.0.returning h.2

-- What a commit and a failed commit make of a database in which a new book was to begin.
use Rattle.std.proofs.Common.{◌≡◌, inl, inr, sym, ap, subst, ◌∙◌, arith, ℕ, List, IsTrue, true, true≢false}
use Rattle.std.specs.Prelude.{false}
use Rattle.std.proofs.lemmas.Bool.{cases_Bool}
use Rattle.sqlite_trees.specs.declared.store.Store.{Ghosts}
use Rattle.sqlite.specs.Held.{Held, state}
use Rattle.sqlite.specs.Tree.{Trees}
use Rattle.sqlite.specs.Effect.{Database}
use Rattle.sqlite.specs.declared.error.Error.{Error}
use Rattle.sqlite_catalog.specs.Listing.{IsSound}
use Rattle.sqlite.specs.State.{State, HasCleanDisk, IsLive, Survives, Shows, IsRolledBack}
use Rattle.sqlite.specs.Steps.{FailsToCommit}
use Rattle.sqlite.proofs.StateLemmas.{survives_then}
use Rattle.ob_sql_rows.specs.Schema.{no_schema, book_schema}
use Rattle.ob_sql_rows.specs.Rows.{Tables, Holds}
use Rattle.ob_sql_rows.specs.Rules.{AreNumbered, IsShort}
use Rattle.ob_sql_rows.specs.Steps.{HasFailed, Silent}
use Rattle.ob_sql_rows.proofs.Failing.{failed_before}
use Rattle.ob_sql_write.specs.Keeps.{HasCommitCause, Leaves, Keeps, KeepsNumbers}
use Rattle.ob_sql_write.specs.NewBook.{LetsNew, MakesNew}
use Rattle.ob_sql_write.proofs.Commits.{fails_to_commit}
use Rattle.ob_sql_write.specs.Begins.{Begins, StaysOrBegins}

-- a commit that fails inside a transaction is a rollback
rolls_back : (last end : State) (e : Error) → IsTrue last.in_transaction → FailsToCommit last end e → IsRolledBack last end
rolls_back last end e inside (inl fails) = fails.3
rolls_back last end e inside (inr outside) = absurd (true≢false (sym inside ∙ outside.1))

module _ (old last end : State) (t : Tables) (none : old.now.schema ≡ no_schema) (quiet : Silent old last)
    (makes : HasCleanDisk last → MakesNew t (record old { in_transaction = true }) last) (ends : Survives last end (λ db. db ≡ last.now.trees)) where
  made : HasCleanDisk end → MakesNew t (record old { in_transaction = true }) last
  made clean = makes (omega (arith, ends.clean, clean))

  leaves : HasCleanDisk end → (trees : Trees) → trees ≡ last.now.trees → Leaves t trees
  leaves clean trees is =
      let it = made clean in
      record {
        sound = subst (IsSound book_schema) (sym is) (subst (λ s. IsSound s last.now.trees) (it.schema none) (it.sound none));
        holds = subst (λ x. Holds x t) (sym is) (it.holds none);
      }

  -- where that ends on a clean disk the store was open
  pub was_live : HasCleanDisk end → IsTrue old.is_open
  was_live clean = (made clean).live

  -- a crash leaves what it left before, or the tables of a new book
  pub survives_new : Survives old end (Begins old t)
  survives_new =
      survives_then old last end _ _ (Begins old t) (λ _ db none. absurd none) (λ clean db is. ((made clean).live, none, leaves clean db is)) quiet.survives ends

  -- a commit
  pub keeps_new : (HasCleanDisk end → Shows last end last.now last.now false) → (IsTrue end.is_open → (trees : Trees) → end.may_leave trees → trees ≡ end.committed.trees) → Keeps end t
  keeps_new shows law = record {
    settled = λ clean live.
        let it = shows clean in
        let m = made clean in
        record {
          schema = ap (λ (d : Database). d.schema) it.now_is ∙ m.schema none;
          committed = it.committed_is ∙ sym it.now_is;
          holds = subst (λ (d : Database). Holds d.trees t) (sym it.now_is) (m.holds none);
        };
    left = λ clean trees may. let it = shows clean in leaves clean trees (law it.is_open trees may ∙ ap (λ (d : Database). d.trees) it.committed_is);
  }

  -- a commit that failed
  pub stays_or_begins : (e : Error) → (IsTrue old.is_open → old.now ≡ old.committed) → (HasCleanDisk end → FailsToCommit last end e) → StaysOrBegins old end t
  stays_or_begins e settled fails = record {
    shown = λ clean live.
        let late : HasCleanDisk last = omega (arith, ends.clean, clean) in
        let it = makes late in
        let back = rolls_back last end e it.inside (fails clean) in
        let kept = (quiet.kept late).committed (back.was_open live) in
        record {
          was_open = it.live;
          now = (back.undone live).0 ∙ kept ∙ sym (settled it.live);
          committed = (back.undone live).1 ∙ kept;
        };
    left = survives_new.crash;
  }

  -- the hidden row numbers are those of a new book
  pub numbered_new : (HasCleanDisk end → Shows last end last.now last.now false) → (IsTrue end.is_open → (trees : Trees) → end.may_leave trees → trees ≡ end.committed.trees) → KeepsNumbers end
  numbered_new shows law clean trees may =
      let it = shows clean in
      subst AreNumbered (sym (law it.is_open trees may ∙ ap (λ (d : Database). d.trees) it.committed_is)) ((made clean).numbered none)

-- why a new book isn't committed
pub new_cause : {S : Type 0} (g : Ghosts S) (old : State) (last : Held S) (end : State) (t : Tables) → old.now.schema ≡ no_schema → Silent old (state g last) → (HasCleanDisk (state g last) → MakesNew t (record old { in_transaction = true }) (state g last))
    → Survives (state g last) end (λ db. db ≡ (state g last).now.trees) → (e : Error) → HasCleanDisk end → FailsToCommit (state g last) end e → HasCommitCause g old end t
new_cause g old last end t none quiet makes ends e clean fails =
    let late : HasCleanDisk (state g last) = omega (arith, ends.clean, clean) in
    let it = makes late in
    fails_to_commit g old last end t e quiet late ends (it.holds none) it.inside fails

-- a step failed, and the transaction is dropped
pub dropped_new : (old last end : State) (P : Trees → Type 0) (first zone : List ℕ) → IsLive old → old.now.schema ≡ no_schema → IsShort first → IsShort zone
    → (LetsNew first zone (record old { in_transaction = true }) → HasFailed (record old { in_transaction = true }) last) → Survives last end P → HasFailed old end
dropped_new old last end P first zone whole none first_short zone_short told drops = elim (cases_Bool old.is_open) [
  | inl live ↦ failed_before old last end P (told (record { book = (none, (whole live).0); first_fits = first_short; zone_fits = zone_short })) drops
  | inr shut ↦ inr (inl shut)
]

-- What calls one after the other tell of the faults of their store.
use Rattle.std.proofs.Common.{◌≡◌, ℕ, inl, inr, List, [], ◌++◌, Result, Err, IsSome, IsTrue, refl, sym, subst, arith}
use Rattle.std.specs.Prelude.{⊤}
use Rattle.std.proofs.lemmas.List.Sums.{fold-append}
use Rattle.sqlite.specs.Held.{Held, state}
use Rattle.sqlite.specs.State.{State, Survives}
use Rattle.sqlite.proofs.StateLemmas.{survives_then}
use Rattle.sqlite_trees.specs.Tree.{Trees}
use Rattle.ob_base.specs.declared.stop.Stop.{Stop}
use Rattle.ob_base.specs.declared.stop.Stop.TheVariants.{Fault}
use Rattle.ob_base.specs.declared.stop.Fault.TheVariants.{Store}
use Rattle.ob_book.specs.Acts.{ActState, Referenced, act, acts, is_accepted}
use Rattle.ob_sql_rows.proofs.Failing.{failed_after}
use Rattle.ob_sql_write.specs.Keeps.{KeepsNumbers, WasUndone}
use Rattle.ob_record.specs.Tables.{tables_of}
use Rattle.ob_sql_read.proofs.Listing.{still}
use Rattle.ob_store.specs.Calls.{CommitsNothing, ForgetsNoFault, HasCommandCause, HasReadCause, HasWorkCause, IfHeld, TellsFaults}
use Rattle.ob_store.specs.Keepers.{Ghosts, IsClean, OnlySearches, StoresNumbers, Ties, book_of}
use Rattle.ob_store.specs.declared.keeper.Keeper.{Keeper}
use Rattle.ob_store.proofs.KeeperLaws.{numbers_stay}

-- what a call that commits nothing leaves; and calls one after the other
pub as_any : (a b : State) (P : Trees → Type 0) → Survives a b P → Survives a b (λ _. ⊤)
as_any a b P one = record { clean = one.clean; shield = one.shield; counts = one.counts; limit = one.limit; closes = one.closes; crash = λ clean db may. inr tt }

pub any_still : (a : State) → Survives a a (λ _. ⊤)
any_still a = as_any a a (λ _. ⊥) (still a)

pub any_then : (a b c : State) (P Q : Trees → Type 0) → Survives a b P → Survives b c Q → Survives a c (λ _. ⊤)
any_then a b c P Q = survives_then a b c P Q (λ _. ⊤) (λ _ db _. tt) (λ _ db _. tt)

module _ {S T : Type 0} {g : Ghosts S} where
  pub forgets_then : (old mid new : Keeper S T g) → ForgetsNoFault old mid → ForgetsNoFault mid new → ForgetsNoFault old new
  forgets_then old mid new = any_then (state g old.parts.conn) (state g mid.parts.conn) (state g new.parts.conn) (λ _. ⊤) (λ _. ⊤)

  -- nothing was done
  pub tells_nothing : (old new : Keeper S T g) (failed : Type 0) → new ≡ old → (failed → ⊥) → TellsFaults old new failed
  tells_nothing old new failed same never = subst (λ (k : Keeper S T g). TellsFaults old k failed) (sym same) (record {
    forgets = any_still (state g old.parts.conn);
    numbered = λ clean b ties some numbers. numbers;
    cause = λ clean b ties some numbers fails. absurd (never fails);
  })

  -- nothing but searches of the network was done
  pub tells_searched : (old new : Keeper S T g) (failed : Type 0) → OnlySearches old new → (failed → ⊥) → TellsFaults old new failed
  tells_searched old new failed same never = record {
    forgets = subst (λ (h : Held S). Survives (state g old.parts.conn) (state g h) (λ _. ⊤)) (sym same.0) (any_still (state g old.parts.conn));
    numbered = λ clean b ties some numbers. subst (λ (h : Held S). KeepsNumbers (state g h)) (sym same.0) numbers;
    cause = λ clean b ties some numbers fails. absurd (never fails);
  }

  -- a failure that is reported in other words
  pub tells_as : (old new : Keeper S T g) (F G : Type 0) → (G → F) → TellsFaults old new F → TellsFaults old new G
  tells_as old new F G reads tells = record {
    forgets = tells.forgets;
    numbered = tells.numbered;
    cause = λ clean b ties some numbers fails. tells.cause clean b ties some numbers (reads fails);
  }

  -- a command
  pub act_tells : {X : Type 0} (r : Result X Stop) (old new : Keeper S T g) (a : Referenced) → ForgetsNoFault old new
      → ((b : ActState) → Ties old b → StoresNumbers old → StoresNumbers new)
      → IfHeld old new (λ b. StoresNumbers old → HasCommandCause old new b a r)
      → TellsFaults old new (r ≡ Err (Fault Store))
  act_tells {X = X} r old new a forgets numbered cause = record {
    forgets = forgets;
    numbered = λ clean b ties some numbers. numbered b ties numbers;
    cause = λ clean b ties some numbers fails.
        elim (subst (λ (r : Result X Stop). HasCommandCause {X = X} old new b a r) fails (cause clean b ties some numbers) refl) [
          | inl failed ↦ inl failed
          | inr undone ↦ inr ([], a, undone.0, undone.1)
        ];
  }

  -- what is read, and nothing is committed
  pub read_tells : {X : Type 0} (r : Result X Stop) (old new : Keeper S T g) → CommitsNothing old new
      → IfHeld old new (λ b. HasReadCause old new r)
      → TellsFaults old new (r ≡ Err (Fault Store))
  read_tells {X = X} r old new nothing cause = record {
    forgets = as_any (state g old.parts.conn) (state g new.parts.conn) (λ _. ⊥) nothing;
    numbered = λ clean b ties some numbers. numbers_stay old new nothing numbers;
    cause = λ clean b ties some numbers fails.
        inl (subst (λ (r : Result X Stop). HasReadCause {X = X} old new r) fails (cause clean b ties some) refl);
  }

  -- one call after another, where the first left a book of some commands more
  pub tells_then : (old mid new : Keeper S T g) (F G : Type 0) → TellsFaults old mid F
      → IfHeld old mid (λ b. (done : List Referenced) × Ties mid (acts b done) × IsSome (book_of mid)) → TellsFaults mid new G → TellsFaults old new G
  tells_then old mid new F G one tied two = record {
    forgets = forgets_then old mid new one.forgets two.forgets;
    numbered = λ clean b ties some numbers.
        let was : IsClean mid = omega (arith, two.forgets.clean, clean) in
        let more = tied was b ties some in
        two.numbered clean (acts b more.0) more.1 more.2 (one.numbered was b ties some numbers);
    cause = λ clean b ties some numbers fails.
        let was : IsClean mid = omega (arith, two.forgets.clean, clean) in
        let more = tied was b ties some in
        elim (two.cause clean (acts b more.0) more.1 more.2 (one.numbered was b ties some numbers) fails) [
          | inl failed ↦ inl (failed_after (state g old.parts.conn) (state g mid.parts.conn) (state g new.parts.conn) (λ _. ⊤) (λ _. ⊤) one.forgets was two.forgets failed)
          | inr (done, a, accepted, undone) ↦ inr (
            more.0 ++ done,
            a,
            subst (λ (x : ActState). IsTrue (is_accepted x a)) (sym (fold-append act b more.0 done)) accepted,
            subst (λ (x : ActState). WasUndone g (state g new.parts.conn) (tables_of (act x a))) (sym (fold-append act b more.0 done)) undone,
          )
        ];
  }

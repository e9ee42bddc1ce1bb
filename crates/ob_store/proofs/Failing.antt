-- Why a reading of the tables tells that the store failed.
use Rattle.std.proofs.Common.{◌≡◌, ◌⊎◌, ◌≤◌, ℕ, inl, inr, Option, Result, Ok, Err, IsSome, IsTrue, sym, subst, ◌∙◌, arith, true≢false}
use Rattle.std.proofs.lemmas.Bool.{cases_Bool}
use Rattle.sqlite.specs.Effect.{Database}
use Rattle.sqlite.specs.State.{State, HasCause, HasCleanDisk, Survives}
use Rattle.sqlite_trees.specs.declared.error.StoreError.TheVariants.{Io}
use Rattle.ob_base.specs.Stop.{out_of_memory}
use Rattle.ob_base.specs.declared.stop.Stop.{Stop}
use Rattle.ob_base.specs.declared.stop.Stop.TheVariants.{Fault}
use Rattle.ob_base.specs.declared.stop.Fault.TheVariants.{Store}
use Rattle.ob_sql_rows.specs.Steps.{HasFailed, HasFaultCause}
use Rattle.ob_sql_rows.proofs.Failing.{failed_after}
use Rattle.ob_sql_read.specs.Reading.{bad_book}
use Rattle.ob_store.specs.Keeping.{HasStoreCause, IsBroken}

-- over a file that isn't broken, and over one that may be
pub as_store_cause : {X : Type 0} (old new : State) (r : Result X Stop) → HasFaultCause old new r → HasStoreCause old new r
as_store_cause old new (Ok x) cause = tt
as_store_cause old new (Err stop) cause = λ is. inl (cause is)

-- the steps before it changed nothing
pub cause_later : {X : Type 0} (old mid new : State) (r : Result X Stop) → Survives old mid (λ _. ⊥) → Survives mid new (λ _. ⊥) → HasCleanDisk mid → mid.now ≡ old.now → HasStoreCause mid new r → HasStoreCause old new r
cause_later old mid new (Ok x) first second clean same cause = tt
cause_later old mid new (Err stop) first second clean same cause = λ is. elim (cause is) [
  | inl failed ↦ inl (failed_after old mid new _ _ first clean second failed)
  | inr broken ↦ inr (subst (λ (d : Database). IsBroken d.trees) same broken)
]

-- other stops tell nothing of the store
pub no_store : {P : Type 0} (stop : Stop) → (stop ≡ bad_book) ⊎ (stop ≡ out_of_memory) → stop ≡ Fault Store → P
no_store stop (inl bad) is = absurd (let e : bad_book ≡ Fault Store = sym bad ∙ is in cc)
no_store stop (inr memory) is = absurd (let e : out_of_memory ≡ Fault Store = sym memory ∙ is in cc)

-- ---- what fails after a step that the store survived has failed in the whole
more_later : (a b c : State) → HasCause a b ⊥ Io → b.faults ≤ c.faults → HasCause a c ⊥ Io
more_later a b c more up = omega (arith, more, up)

more_earlier : (a b c : State) → a.faults ≤ b.faults → HasCause b c ⊥ Io → HasCause a c ⊥ Io
more_earlier a b c up more = omega (arith, more, up)

pub failed_since : (old mid new : State) → Survives old mid (λ _. ⊥) → HasCleanDisk mid → mid.faults ≤ new.faults → HasFailed mid new → HasFailed old new
failed_since old mid new one clean up (inl more) = inl (more_earlier old mid new one.counts more)
failed_since old mid new one clean up (inr (inl shut)) = elim (cases_Bool old.is_open) [
  | inl live ↦ closed (one.closes clean live)
  | inr was ↦ inr (inl was)
]
  where
    closed : IsTrue mid.is_open ⊎ HasCause old mid ⊥ Io → HasFailed old new
    closed (inl live) = absurd (true≢false (sym live ∙ shut))
    closed (inr more) = inl (more_later old mid new more up)
failed_since old mid new one clean up (inr (inr limited)) = inr (inr (subst (λ (l : Option ℕ). IsSome l) one.limit limited))

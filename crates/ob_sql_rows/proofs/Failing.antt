-- Why the store fails, over steps, and at a query that no database of its schema refuses.
use Rattle.std.proofs.Common.{◌≡◌, ◌≤◌, ℕ, List, [], Option, None, false, IsTrue, IsSome, inl, inr, refl, sym, ap, subst, ◌∙◌, arith, append-nil, true≢false}
use Rattle.std.specs.Prelude.{◌⊎◌, Result, Ok, Err, IfErr}
use Rattle.std.proofs.lemmas.Bool.{cases_Bool}
use Rattle.sqlite_trees.specs.Tree.{Trees}
use Rattle.sqlite_trees.specs.declared.error.StoreError.{StoreError}
use Rattle.sqlite_trees.specs.declared.error.StoreError.TheVariants.{OutOfMemory, Io, Corrupt, Full, Broken, Unstorable}
use Rattle.sqlite_schema.specs.declared.program.Program.{Program}
use Rattle.sqlite_schema.specs.Program.{lets_of}
use Rattle.sqlite_sql.specs.Program.{ProgramOverflows}
use Rattle.sqlite.specs.Schema.{Schema}
use Rattle.sqlite.specs.Order.{Row}
use Rattle.sqlite.specs.Clock.{timed}
use Rattle.sqlite.specs.Effect.{Database, IsShown, RefusesQuery, RefusesToRead}
use Rattle.sqlite.specs.Listing.{IsSourceOf}
use Rattle.sqlite.specs.State.{State, Fails, FailsToQuery, FailsToShow, HasCause, HasCleanDisk, IsNotRun, IsTooLate, Survives, store_error}
use Rattle.sqlite.specs.declared.error.Error.{Error}
use Rattle.sqlite.specs.declared.error.Error.TheVariants.{SqliteFailure}
use Rattle.sqlite.specs.declared.error.ErrorCode.TheVariants as code
use Rattle.ob_base.specs.Stop.{out_of_memory}
use Rattle.ob_base.specs.declared.stop.Stop.{Stop}
use Rattle.ob_base.specs.declared.stop.Stop.TheVariants.{Fault}
use Rattle.ob_base.specs.declared.stop.Fault.TheVariants.{Store}
use Rattle.ob_sql_rows.specs.Queries.{IsAlwaysAnswered, IsAnswered, IsAnsweredAs}
use Rattle.ob_sql_rows.specs.Steps.{HasFailed, HasFaultCause}

-- ---- over steps
more_later : (a b c : State) → HasCause a b ⊥ Io → b.faults ≤ c.faults → HasCause a c ⊥ Io
more_later a b c more up = omega (arith, more, up)

more_earlier : (a b c : State) → a.faults ≤ b.faults → HasCause b c ⊥ Io → HasCause a c ⊥ Io
more_earlier a b c up more = omega (arith, more, up)

-- what failed before failed in the whole
pub failed_before : (a b c : State) (P : Trees → Type 0) → HasFailed a b → Survives b c P → HasFailed a c
failed_before a b c P (inl more) s = inl (more_later a b c more s.counts)
failed_before a b c P (inr rest) s = inr rest

-- and so did what fails after steps that the store survived
pub failed_after : (a b c : State) (P Q : Trees → Type 0) → Survives a b P → HasCleanDisk b → Survives b c Q → HasFailed b c → HasFailed a c
failed_after a b c P Q one clean two (inl more) = inl (more_earlier a b c one.counts more)
failed_after a b c P Q one clean two (inr (inl shut)) = elim (cases_Bool a.is_open) [
  | inl live ↦ closed (one.closes clean live)
  | inr was ↦ inr (inl was)
]
  where
    closed : IsTrue b.is_open ⊎ HasCause a b ⊥ Io → HasFailed a c
    closed (inl live) = absurd (true≢false (sym live ∙ shut))
    closed (inr more) = inl (more_later a b c more two.counts)
failed_after a b c P Q one clean two (inr (inr limited)) = inr (inr (subst (λ (l : Option ℕ). IsSome l) one.limit limited))

-- what is told of a step holds of the whole, with steps that the store survived behind it or before it
pub cause_before : {X : Type 0} (a b c : State) (P : Trees → Type 0) (r : Result X Stop) → HasFaultCause a b r → Survives b c P → HasFaultCause a c r
cause_before a b c P (Ok x) h s = tt
cause_before a b c P (Err stop) h s = λ store. failed_before a b c P (h store) s

pub cause_after : {X : Type 0} (a b c : State) (P Q : Trees → Type 0) (r : Result X Stop) → Survives a b P → HasCleanDisk b → Survives b c Q → HasFaultCause b c r → HasFaultCause a c r
cause_after a b c P Q (Ok x) one clean two h = tt
cause_after a b c P Q (Err stop) one clean two h = λ store. failed_after a b c P Q one clean two (h store)

-- where memory was refused no failure of the store is told
pub no_fault : {X : Type 0} (a b : State) (r : Result X Stop) → IfErr r (λ stop. stop ≡ out_of_memory) → HasFaultCause a b r
no_fault a b (Ok x) h = tt
no_fault a b (Err stop) h = λ store. absurd (let e = sym h ∙ store in cc)

-- ---- at a query
-- memory was refused, or the store has failed
abbrev pub FailsOnly : State → State → Error → Type 0
FailsOnly old new e = (e ≡ SqliteFailure code.OutOfMemory) ⊎ HasFailed old new

by_cause : (old new : State) (cause : StoreError) → HasCause old new ⊥ cause → FailsOnly old new (store_error cause)
by_cause old new OutOfMemory h = inl refl
by_cause old new Io h = inr (inl h)
by_cause old new Corrupt h = inr (inl h)
by_cause old new Full h = inr (inl h)
by_cause old new Broken h = inr (inr (inl h))
by_cause old new Unstorable h = absurd h

-- a step of the store that fails has a cause
pub failed : (old new : State) (e : Error) → Fails old new ⊥ e → FailsOnly old new e
failed old new e fails = subst (FailsOnly old new) (sym fails.1) (by_cause old new fails.0 fails.2)

-- so the text isn't run only where the store fails
pub not_run : (old new : State) (text : List ℕ) (params : Row) (e : Error) → IsAlwaysAnswered old.now.schema text params → IsNotRun old new text params e → FailsOnly old new e
unfolding IsNotRun
not_run old new text params e is (inl (inl none, same)) = absurd (subst (IsAnsweredAs old.now.schema text params) none.1 is)
not_run old new text params e is (inl (inr (c, known, inl (more, error)), same)) =
    absurd (more (subst (IsAnsweredAs old.now.schema text params) known is).whole)
not_run old new text params e is (inl (inr (c, known, inr (inl (other, error))), same)) =
    absurd (other (subst (IsAnsweredAs old.now.schema text params) known is).given)
not_run old new text params e is (inl (inr (c, known, inr (inr (timed, error))), same)) =
    absurd (timed (subst (IsAnsweredAs old.now.schema text params) known is).timeless)
not_run old new text params e is (inr fails) = failed old new e fails

-- and is answered unless the store fails
pub not_answered : (old new : State) (text : List ℕ) (params : Row) (e : Error) → IsAlwaysAnswered old.now.schema text params → FailsToQuery text params old new e → FailsOnly old new e
unfolding FailsToQuery
not_answered old new text params e is (inl idle) = not_run old new text params e is idle
not_answered old new text params e is (inr (c, it, fails)) =
    let so : IsAnswered old.now.schema text params c = subst (IsAnsweredAs old.now.schema text params) it.is is in
    let full : timed params c.formats it.now ≡ params = ap (λ f. timed params f it.now) so.timeless ∙ append-nil params in
    let refused = subst (FailsToShow old new text c (timed params c.formats it.now) e) so.plain fails in
    inr (inr (inr (so.accepted old.step_limit old.now refused.0 e refl refused.1 (subst (λ p. RefusesToRead old.step_limit c.command refused.0 p e) full refused.2))))

-- the stop is the store's only with a cause
pub stop_cause : (old new : State) (e : Error) (stop : Stop) → (e ≡ SqliteFailure code.OutOfMemory → stop ≡ out_of_memory) → FailsOnly old new e → stop ≡ Fault Store → HasFailed old new
stop_cause old new e stop memory (inl is) store = absurd (let it = sym (memory is) ∙ store in cc)
stop_cause old new e stop memory (inr failed) store = failed

-- ---- a query over tables
-- the types of the query don't go together
abbrev pub IsUntyped : Schema → Program → Row → Type 0
IsUntyped schema p params = IsShown (λ (r : Row). r) (record { schema = schema; trees = λ _. [] }) p params None

-- one whose types go together and whose sums can't overflow is refused only where steps are limited
pub query_accepted : (schema : Schema) (p : Program) (params : Row) → ¬ (IsUntyped schema p params) → ((db : Trees) → ¬ (ProgramOverflows db params [] (lets_of p) p.body)) → (limit : Option ℕ) (now db : Database) (e : Error) → now.schema ≡ schema → IsSourceOf false now db
    → RefusesQuery limit db p params e → IsSome limit
query_accepted schema p params typed never limit now db e has source (inl (error, untyped)) =
    absurd (typed (subst (λ s. IsUntyped s p params) (ap (λ (d : Database). d.schema) source ∙ has) untyped))
query_accepted schema p params typed never limit now db e has source (inr (inl (error, over))) = absurd (never db.trees over)
query_accepted schema p params typed never limit now db e has source (inr (inr (error, limited))) = limited

-- a query inside a transaction, too
pub not_answered_inside : (old new : State) (text : List ℕ) (params : Row) (e : Error) → IsAlwaysAnswered old.now.schema text params
    → FailsToQuery text params old new e ⊎ IsTooLate text params old new e → FailsOnly old new e
not_answered_inside old new text params e is (inl fails) = not_answered old new text params e is fails
not_answered_inside old new text params e is (inr late) =
    let so : IsAnswered old.now.schema text params late.0 = subst (IsAnsweredAs old.now.schema text params) late.1.is is in
    absurd (let none = rw so.plain at late.2 in cc)

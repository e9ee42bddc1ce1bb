-- Why the store fails at the queries of the tables.
use Rattle.std.proofs.Common.{◌≡◌, ℕ, List, [], Option, Ok, Err, IsErrAnd, IsSome, false, inl, inr, sym, subst, ◌∙◌}
use Rattle.std.specs.Prelude.{Result}
use Rattle.sqlite_trees.specs.Tree.{Trees}
use Rattle.sqlite_schema.specs.declared.program.Program.{Program}
use Rattle.sqlite_sql.specs.Program.{ProgramOverflows}
use Rattle.sqlite.specs.Schema.{Schema}
use Rattle.sqlite.specs.Effect.{Database, RefusesToRead}
use Rattle.sqlite.specs.Listing.{IsSourceOf}
use Rattle.sqlite.specs.State.{State, FailsToQuery, HasCleanDisk, IsUnchanged, Survives}
use Rattle.sqlite.specs.declared.error.Error.{Error}
use Rattle.sqlite.specs.declared.error.Error.TheVariants.{SqliteFailure}
use Rattle.sqlite.specs.declared.error.ErrorCode.TheVariants as code
use Rattle.ob_base.specs.Stop.{out_of_memory}
use Rattle.ob_base.specs.declared.stop.Stop.{Stop}
use Rattle.ob_base.specs.declared.stop.Stop.TheVariants.{Fault}
use Rattle.ob_base.specs.declared.stop.Fault.TheVariants.{Store}
use Rattle.ob_sql_rows.specs.Queries.{IsAlwaysAnswered}
use Rattle.ob_sql_rows.specs.Steps.{HasFailed, HasFaultCause}
use Rattle.ob_sql_rows.proofs.Failing.{IsUntyped, failed_after, not_answered, query_accepted, stop_cause}
use Rattle.ob_sql_read.specs.Listing.{IsListingOver, Listing, list_command, list_query}

-- a listing as a program
abbrev pub list_program : Listing → Program
list_program l = record { lets = []; body = list_query l }

-- it adds nothing up
never_over : (l : Listing) (db : Trees) → ¬ (ProgramOverflows db [] [] [] (list_query l))
never_over l db (inl none) = none
never_over l db (inr some) = some.4

-- so it is refused only where steps are limited
pub list_accepted : (schema : Schema) (l : Listing) → ¬ (IsUntyped schema (list_program l) []) → (limit : Option ℕ) (now db : Database) (e : Error) → now.schema ≡ schema → IsSourceOf false now db
    → RefusesToRead limit (list_command l) db [] e → IsSome limit
list_accepted schema l typed = query_accepted schema (list_program l) [] typed (never_over l)

-- a text that was prepared and then isn't answered
pub asked_cause : (old mid new : State) (P : Trees → Type 0) (sql text : List ℕ) (e : Error) (stop : Stop) → (e ≡ SqliteFailure code.OutOfMemory → stop ≡ out_of_memory) → IsAlwaysAnswered old.now.schema sql [] → (text ≡ sql) × IsUnchanged old mid
    → Survives old mid (λ _. ⊥) → HasCleanDisk mid → Survives mid new P → FailsToQuery text [] mid new e → stop ≡ Fault Store → HasFailed old new
asked_cause old mid new P sql text e stop memory is ready one clean two fails store =
    let there : IsAlwaysAnswered mid.now.schema text [] =
    subst (λ t. IsAlwaysAnswered mid.now.schema t []) (sym ready.0) (subst (λ (d : Database). IsAlwaysAnswered d.schema sql []) (sym ready.1.0.now_is) is) in
    failed_after old mid new _ P one clean two (stop_cause mid new e stop memory (not_answered mid new text [] e there fails) store)

-- what a `?` hands on has the cause of what it was handed
pub cause_of_error : {X : Type 0} (a b : State) (r : Result X Stop) (stop : Stop) → IsErrAnd r (λ s. s ≡ stop) → (stop ≡ Fault Store → HasFailed a b) → HasFaultCause a b r
cause_of_error a b (Ok x) stop is told = tt
cause_of_error a b (Err s) stop is told = λ store. told (sym is ∙ store)

-- a listing over a schema like that at which it is one
pub answered_over : {at schema : Schema} (l : Listing) → IsListingOver at l → schema ≡ at → IsAlwaysAnswered schema l.text []
answered_over l means has = subst (λ s. IsAlwaysAnswered s l.text []) (sym has) means.answered

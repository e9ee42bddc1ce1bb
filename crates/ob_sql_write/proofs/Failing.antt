-- Why the reading of a book's tables fails.
use Rattle.std.proofs.Common.{◌≡◌, inl, inr, sym, true≢false}
use Rattle.std.specs.Prelude.{Result, Ok, Err, IsOk}
use Rattle.std.proofs.lemmas.Bool.{cases_Bool}
use Rattle.sqlite.specs.State.{State, HasCleanDisk}
use Rattle.ob_base.specs.declared.stop.Stop.{Stop}
use Rattle.ob_sql_rows.specs.Rows.{Tables}
use Rattle.ob_sql_rows.specs.Schema.{book_schema}
use Rattle.ob_sql_rows.specs.Steps.{HasFaultCause}
use Rattle.ob_sql_write.specs.Keeps.{Keeps}

-- an answer has none to tell
pub answer_cause : {X : Type 0} (old new : State) (r : Result X Stop) → IsOk r → HasFaultCause old new r
answer_cause old new (Ok x) is = tt
answer_cause old new (Err stop) is = absurd (true≢false (sym is))

-- a store that keeps tables of a book shows their schema while it is open, and fails where it is shut
pub keeper_cause : {X : Type 0} (old new : State) (t : Tables) (r : Result X Stop) → HasCleanDisk old → Keeps old t → (old.now.schema ≡ book_schema → HasFaultCause old new r) → HasFaultCause old new r
keeper_cause old new t (Ok x) clean keeps told = tt
keeper_cause old new t (Err stop) clean keeps told = λ store. elim (cases_Bool old.is_open) [
  | inl live ↦ told (keeps.settled clean live).schema store
  | inr shut ↦ inr (inl shut)
]

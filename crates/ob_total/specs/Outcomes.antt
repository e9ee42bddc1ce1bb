-- What a run answers of what a definition says.
use Rattle.std.specs.Io.KnownBytes.{Appends}
use Rattle.std.specs.Prelude.{ℕ, ◌≡◌, ◌≤◌, List, length, take, Option, Some, None, Result, Ok, Err}
use Rattle.ob_base.specs.declared.stop.Fault.TheVariants as faults
use Rattle.ob_base.specs.declared.stop.Stop.{Stop}
use Rattle.ob_base.specs.declared.stop.Stop.TheVariants as stops
use Rattle.ob_total.specs.Totals.{Refused, total_of, total_line}
use Rattle.ob_total.specs.declared.total.TotalStop.{TotalStop}

-- a refusal is the one that is said, at its row; a fault says nothing and has no row
abbrev pub StopsAs : Stop → Option ℕ → Result ℕ Refused → Type 0
StopsAs (stops.Refused refusal) None said = ⊥
StopsAs (stops.Refused refusal) (Some row) said = said ≡ Err (refusal, row)
StopsAs (stops.Fault fault) row said = row ≡ None

-- the total is the one that is said
abbrev pub Answers : Result ℕ TotalStop → Result ℕ Refused → Type 0
Answers (Ok total) said = said ≡ Ok total
Answers (Err stop) said = StopsAs stop.stop stop.row said

-- the same, where what is read is known
abbrev pub AnswersKnown : {A : Type 0} → (A → Result ℕ Refused) → Option A → Result ℕ TotalStop → Type 0
AnswersKnown said None answer = Unit {0}
AnswersKnown said (Some known) answer = Answers answer (said known)

-- what is still to come says the same as what there was at first
abbrev pub SaysOn : {A : Type 0} → (A → Result ℕ Refused) → (A → Result ℕ Refused) → Option A → Option A → Type 0
SaysOn first later None new = Unit {0}
SaysOn first later (Some old) None = ⊥
SaysOn first later (Some old) (Some new) = first old ≡ later new

-- a stop of a run that has no store: of memory, or of a reader or a writer that has this cause
abbrev pub HasCause : Stop → Type 0 → Type 0 → Type 0
HasCause (stops.Refused refusal) input output = Unit {0}
HasCause (stops.Fault faults.OutOfMemory) input output = Unit {0}
HasCause (stops.Fault faults.Input) input output = input
HasCause (stops.Fault faults.Output) input output = output
HasCause (stops.Fault faults.Store) input output = ⊥
HasCause (stops.Fault faults.Reopen) input output = ⊥

abbrev pub IsRefusal : Stop → Type 0
IsRefusal (stops.Refused refusal) = Unit {0}
IsRefusal (stops.Fault fault) = ⊥

-- a total or a refusal, which are said of the whole text
abbrev pub SpeaksOfText : Result ℕ TotalStop → Type 0
SpeaksOfText (Ok total) = Unit {0}
SpeaksOfText (Err stop) = IsRefusal stop.stop

-- where what is read is known, it has at most so many bytes
abbrev pub IsWithin : Option (List ℕ) → ℕ → Type 0
IsWithin None limit = Unit {0}
IsWithin (Some bytes) limit = length bytes ≤ limit

-- what was written is a front of the line of the total that is said
abbrev pub BeginsLine : Option (List ℕ) → Option (List ℕ) → Option (List ℕ) → Type 0
BeginsLine input old new = (total : ℕ) × (count : ℕ) × AnswersKnown total_of input (Ok total) × Appends old new (take count (total_line total))

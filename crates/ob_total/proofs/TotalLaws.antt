-- The loop over the rows after the span: what is left says what there was at first.
use Rattle.std.proofs.Common.{◌≡◌, ℕ, ◌+◌, true, false, List, Option, Some, None, Result, Ok, Err, nat_lt, refl, ap, sym, ◌∙◌}
use Rattle.ob_base.specs.declared.stop.Refusal.{Refusal}
use Rattle.ob_base.specs.declared.stop.Refusal.TheVariants.{Full}
use Rattle.std.specs.Prelude.{IfOk, IfErr}
use Rattle.ob_base.specs.declared.stop.Fault.{Fault}
use Rattle.ob_base.specs.declared.stop.Fault.TheVariants.{OutOfMemory}
use Rattle.ob_base.specs.declared.stop.Stop.{Stop}
use Rattle.ob_base.specs.declared.stop.Stop.TheVariants as stops
use Rattle.ob_base.specs.Stop.{out_of_memory}
use Rattle.ob_csv.specs.Rows.{Fields, TakesRow}
use Rattle.ob_csv.specs.declared.TheConstants.{MOST_ROWS}
use Rattle.ob_total.specs.Commands.{command_of, span_of}
use Rattle.ob_total.specs.Outcomes.{AnswersKnown, SaysOn, StopsAs}
use Rattle.ob_total.specs.Steps.{StopsAtRow}
use Rattle.ob_total.specs.Totals.{Refused, after_row, begun, stepped, total_from, total_of_body}
use Rattle.ob_total.specs.Worlds.{WorldState, customer_seconds_of}
use Rattle.ob_total.specs.declared.total.TotalStop.{TotalStop}

-- no row is left
pub says_none : (first : List Fields → Result ℕ Refused) (n : ℕ) (w : WorldState) (old now after : Option (List Fields)) (fields : Fields) (total : ℕ)
    → SaysOn first (total_from n w) old now → TakesRow now after false fields → total ≡ customer_seconds_of w → AnswersKnown first old (Ok total)
unfolding total_from
says_none first n w None now after fields total says takes is = tt
says_none first n w (Some old) None after fields total says takes is = absurd says
says_none first n w (Some old) (Some now) after fields total says takes is = says ∙ ap (total_from n w) takes ∙ ap Ok (sym is)

-- a row is taken
pub says_more : (first : List Fields → Result ℕ Refused) (n : ℕ) (w later : WorldState) (old now after : Option (List Fields)) (fields : Fields) → nat_lt MOST_ROWS n ≡ false
    → SaysOn first (total_from n w) old now → TakesRow now after true fields → stepped w (command_of fields) ≡ Ok later
    → SaysOn first (total_from (n + 1) later) old after
unfolding total_from
says_more first n w later None now after fields fits says takes step = tt
says_more first n w later (Some old) None after fields fits says takes step = absurd says
says_more first n w later (Some old) (Some now) None fields fits says takes step = absurd takes
says_more first n w later (Some old) (Some now) (Some after) fields fits says takes step = says ∙ ap (total_from n w) takes ∙ rw (fits, step) refl

-- a stop at a row is what the text says, or says nothing
stop_said : (s : Stop) (row : Option ℕ) (n : ℕ) (step : Result WorldState Refusal) (later : WorldState → Result ℕ Refused) → StopsAtRow s row n step → StopsAs s row (after_row n later step)
stop_said (stops.Refused refusal) row n step later h = rw (h.0, h.1) refl
stop_said (stops.Fault fault) row n step later h = h.1

-- a row stops the run
pub says_stop : (first : List Fields → Result ℕ Refused) (n : ℕ) (w : WorldState) (old now after : Option (List Fields)) (fields : Fields) (stop : TotalStop) → nat_lt MOST_ROWS n ≡ false
    → SaysOn first (total_from n w) old now → TakesRow now after true fields → StopsAtRow stop.stop stop.row n (stepped w (command_of fields))
    → AnswersKnown first old (Err stop)
unfolding total_from
says_stop first n w None now after fields stop fits says takes stops = tt
says_stop first n w (Some old) None after fields stop fits says takes stops = absurd says
says_stop first n w (Some old) (Some now) None fields stop fits says takes stops = absurd takes
says_stop first n w (Some old) (Some now) (Some after) fields stop fits says takes stops =
    let is : first old ≡ after_row n (λ later. total_from (n + 1) later after) (stepped w (command_of fields)) = says ∙ ap (total_from n w) takes ∙ rw fits refl in
    rw is (stop_said stop.stop stop.row n (stepped w (command_of fields)) (λ later. total_from (n + 1) later after) stops)

-- there is a row too many
pub says_full : (first : List Fields → Result ℕ Refused) (n : ℕ) (w : WorldState) (old now after : Option (List Fields)) (fields : Fields) (stop : TotalStop) → nat_lt MOST_ROWS n ≡ true
    → SaysOn first (total_from n w) old now → TakesRow now after true fields
    → stop.stop ≡ stops.Refused (Full MOST_ROWS) → stop.row ≡ Some n → AnswersKnown first old (Err stop)
unfolding total_from
says_full first n w None now after fields stop past says takes is at = tt
says_full first n w (Some old) None after fields stop past says takes is at = absurd says
says_full first n w (Some old) (Some now) None fields stop past says takes is at = absurd takes
says_full first n w (Some old) (Some now) (Some after) fields stop past says takes is at =
    rw (is, at) (says ∙ ap (total_from n w) takes ∙ rw past refl)

-- a fault says nothing
pub says_fault : {A : Type 0} (said : A → Result ℕ Refused) (old : Option A) (stop : TotalStop) (f : Fault) → stop.stop ≡ stops.Fault f → stop.row ≡ None → AnswersKnown said old (Err stop)
says_fault said None stop f is at = tt
says_fault said (Some old) stop f is at = rw is at

-- the first row after the header is the span, and the rest says the total
pub says_body : (w : WorldState) (old after : Option (List Fields)) (fields : Fields) (answer : Result ℕ TotalStop)
    → TakesRow old after true fields → begun (span_of fields) ≡ Ok w → AnswersKnown (total_from 2 w) after answer → AnswersKnown total_of_body old answer
says_body w None after fields answer takes begins says = tt
says_body w (Some old) None fields answer takes begins says = absurd takes
says_body w (Some old) (Some after) fields answer takes begins says =
    let is : total_of_body old ≡ total_from 2 w after = ap total_of_body takes ∙ rw begins refl in
    rw is says

-- the first row after the header is no span
pub says_no_span : (old after : Option (List Fields)) (fields : Fields) (stop : TotalStop)
    → TakesRow old after true fields → StopsAtRow stop.stop stop.row 1 (begun (span_of fields)) → AnswersKnown total_of_body old (Err stop)
says_no_span None after fields stop takes stops = tt
says_no_span (Some old) None fields stop takes stops = absurd takes
says_no_span (Some old) (Some after) fields stop takes stops =
    let is : total_of_body old ≡ after_row 1 (λ w. total_from 2 w after) (begun (span_of fields)) = ap total_of_body takes in
    rw is (stop_said stop.stop stop.row 1 (begun (span_of fields)) (λ w. total_from 2 w after) stops)

-- the rows end, and the count says the total
pub says_done : (first : List Fields → Result ℕ Refused) (n : ℕ) (w : WorldState) (old now after : Option (List Fields)) (fields : Fields) (answer : Result ℕ TotalStop)
    → SaysOn first (total_from n w) old now → TakesRow now after false fields
    → IfOk answer (λ total. total ≡ customer_seconds_of w) → IfErr answer (λ e. (e.stop ≡ out_of_memory) × (e.row ≡ None)) → AnswersKnown first old answer
says_done first n w old now after fields (Ok total) says takes is fault = says_none first n w old now after fields total says takes is
says_done first n w old now after fields (Err stop) says takes is fault = says_fault first old stop OutOfMemory fault.0 fault.1

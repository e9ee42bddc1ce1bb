-- What whoever adds up the interruption rows of a book gets.
use Rattle.std.specs.Prelude.{◌≡◌, ℕ, ◌-◌, ◌*◌, ◌<◌, ◌==◌, ◌&&◌, ◌+◌, Bool, true, not, nat_le, length, map, slice_index, min, max}
use Rattle.std.specs.List.{count_by, filter, sum_by}
use Rattle.std.specs.List as lists
use Rattle.ob_cust.specs.Blocks.{has_service}
use Rattle.ob_cust.specs.declared.Customer.{Customer}
use Rattle.ob_time.specs.Calendar.{Calendar, day_at, day_count}
use Rattle.ob_index.specs.Interruptions.{interruptions, is_momentary, is_sustained}
use Rattle.ob_index.specs.declared.figures.Which.{Which}
use Rattle.ob_index.specs.declared.figures.Which.TheVariants.{All, Unmarked}
use Rattle.ob_post.specs.declared.Dim.TheVariants.{Cause, Feeder, Day}
use Rattle.ob_state.specs.Amounts.{amount}
use Rattle.ob_state.specs.State.{BookState}
use Rattle.ob_state.specs.States.{IsSoundState}
use Rattle.ob_book.specs.Views.{counts_of_book, without_supply_of_book}
use Rattle.ob_rows.specs.Rows.{customers_of_rows, interruption_rows, interval_of, row_seconds, seconds_of_rows}
use Rattle.ob_rows.specs.declared.row.InterruptionRow.{InterruptionRow}

-- the row is one of these
abbrev pub is_among : Which → InterruptionRow → Bool
is_among All r = true
is_among Unmarked r = not r.marked

-- it is one of these, and lasts more than five minutes
abbrev pub is_sustained_among : Which → InterruptionRow → Bool
is_sustained_among which r = is_among which r && is_sustained (interval_of r)

-- it is one of these, and lasts at most five minutes
abbrev pub is_momentary_among : Which → InterruptionRow → Bool
is_momentary_among which r = is_among which r && is_momentary (interval_of r)

-- the row is of the customer's section and service
abbrev pub is_row_of : Customer → InterruptionRow → Bool
is_row_of c r = has_service r.section r.service_since r.service_until c

-- the rows of a customer's section and service are its interruptions, in order
abbrev pub RowsAreInterruptions : Type 0
RowsAreInterruptions =
    (b : BookState) → IsSoundState b → lists.All (λ c. map interval_of (filter (is_row_of c) (interruption_rows b)) ≡ interruptions b.network b.entries b.period c) b.customers

-- the customer-seconds of all rows are those without supply, W
abbrev pub RowsAreWithoutSupply : Type 0
RowsAreWithoutSupply = (b : BookState) → IsSoundState b → sum_by row_seconds (interruption_rows b) ≡ without_supply_of_book b

-- the customers of the sustained rows are the customer interruptions, CI
abbrev pub SustainedRowsAreCounted : Type 0
SustainedRowsAreCounted =
    (b : BookState) (which : Which) → IsSoundState b → customers_of_rows (is_sustained_among which) (interruption_rows b) ≡ (counts_of_book b which).ci

-- the customer-seconds of the sustained rows are those of the customer interruptions, CSI
abbrev pub SustainedRowsAreTimed : Type 0
SustainedRowsAreTimed =
    (b : BookState) (which : Which) → IsSoundState b → seconds_of_rows (is_sustained_among which) (interruption_rows b) ≡ (counts_of_book b which).csi

-- the customers who have 1 + n or more sustained rows are those that CN_n counts at place n
abbrev pub CustomersOfRowsAreCounted : Type 0
CustomersOfRowsAreCounted =
    (b : BookState) (which : Which) (n : ℕ) → IsSoundState b → n < 10
    → count_by (λ c. nat_le (1 + n) (length (filter (is_sustained_among which) (filter (is_row_of c) (interruption_rows b))))) b.customers ≡ slice_index (counts_of_book b which).cn_n n

-- the customers of the momentary rows are the momentary customer interruptions, MI
abbrev pub MomentaryRowsAreCounted : Type 0
MomentaryRowsAreCounted =
    (b : BookState) (which : Which) → IsSoundState b → customers_of_rows (is_momentary_among which) (interruption_rows b) ≡ (counts_of_book b which).mi

-- how many seconds of a row lie in the day of this number
abbrev pub seconds_on : Calendar → ℕ → InterruptionRow → ℕ
seconds_on period day r = min r.until (day_at period day).until - max r.since (day_at period day).since

-- the customer-seconds of the rows of a cause are the amount of the cause
abbrev pub RowsAreByCause : Type 0
RowsAreByCause = (b : BookState) (code : ℕ) → IsSoundState b → seconds_of_rows (λ r. r.cause == code) (interruption_rows b) ≡ amount b Cause code

-- the customer-seconds of the rows of a feeder are the amount of the feeder
abbrev pub RowsAreByFeeder : Type 0
RowsAreByFeeder = (b : BookState) (feeder : ℕ) → IsSoundState b → seconds_of_rows (λ r. r.feeder == feeder) (interruption_rows b) ≡ amount b Feeder feeder

-- the customer-seconds of the rows that lie in a day are the amount of the day
abbrev pub RowsAreByDay : Type 0
RowsAreByDay =
    (b : BookState) (day : ℕ) → IsSoundState b → day < day_count b.period → sum_by (λ r. r.customers * seconds_on b.period day r) (interruption_rows b) ≡ amount b Day day

-- The sums over a book's rows are its customer-seconds without supply and its counts.
use Rattle.std.proofs.Common.{◌≡◌, ℕ, ◌+◌, ◌-◌, ◌*◌, ◌<◌, ◌≤◌, ◌&&◌, Bool, true, false, cond, suc, zero, refl, sym, ap, ◌∙◌, arith}
use Rattle.std.specs.List.{count_by, filter, prefix_len, range_with_len, sum_by}
use Rattle.std.proofs.lemmas.List.Sums.{sum_by-cons}
use Rattle.ob_base.specs.Seconds.{intervals, interval_from, seconds, starts_at}
use Rattle.ob_base.specs.declared.interval.Interval.{Interval}
use Rattle.ob_sheet.specs.Supply.{is_deenergized}
use Rattle.ob_cust.specs.WithoutSupply.{is_without_supply}
use Rattle.ob_cust.specs.declared.Customer.{Customer}
use Rattle.ob_time.specs.Calendar.{first_second_of, end_second_of}
use Rattle.ob_post.proofs.RunParts.{holds_within, sum_of_parts}
use Rattle.ob_post.proofs.Sums.{sum_by-map, sum_of_passing, sum_of_same, swap_sums}
use Rattle.ob_index.specs.Interruptions.{counted, duration, interruptions, is_counted, is_momentary, is_sustained}
use Rattle.ob_index.specs.declared.figures.Which.{Which}
use Rattle.ob_index.specs.declared.figures.Which.TheVariants.{All, Unmarked}
use Rattle.ob_state.specs.State.{BookState}
use Rattle.ob_state.specs.States.{IsSoundState}
use Rattle.ob_rows.specs.Rows.{customers_of_rows, interruption_rows, interval_of, row_of, row_seconds, seconds_of_rows}
use Rattle.ob_rows.specs.RowLaws.{RowsAreWithoutSupply, SustainedRowsAreCounted, SustainedRowsAreTimed, MomentaryRowsAreCounted, is_among}
use Rattle.ob_rows.specs.Services.{Service, customers_with}
use Rattle.ob_rows.specs.declared.row.InterruptionRow.{InterruptionRow}
use Rattle.ob_rows.proofs.Adding.{over_customers}

-- ---- all customer-seconds
pub all_ones : (test : ℕ → Bool) (n s : ℕ) → ((t : ℕ) → s ≤ t → t < s + n → test t ≡ true) → sum_by (λ t. cond (test t) 1 0) (range_with_len s n) ≡ n
all_ones test zero s h = refl
all_ones test (suc n) s h =
    let here : cond {A = ℕ} (test s) 1 0 ≡ 1 = ap (λ (b : Bool). cond {A = ℕ} b 1 0) (h s (omega arith) (omega arith)) in
    omega (arith, sum_by-cons (λ t. cond (test t) 1 0) s (range_with_len (s + 1) n), here, all_ones test n (s + 1) (λ t l u. h t (omega arith) (omega arith)))

-- the seconds of an interval on which a test holds are as many as it lasts
own_seconds : (test : ℕ → Bool) (b s : ℕ) → sum_by (λ t. cond (test t) 1 0) (seconds s (s + prefix_len test (seconds s b))) ≡ duration (interval_from test b s)
own_seconds test b s =
    let n = prefix_len test (seconds s b) in
    let long : s + n - s ≡ n = omega arith in
    ap (λ (k : ℕ). sum_by (λ t. cond (test t) 1 0) (range_with_len s k)) long ∙ all_ones test n s (λ t l u. holds_within test b s t l u) ∙ sym long

pub seconds_of_intervals : (test : ℕ → Bool) (a b : ℕ) → sum_by duration (intervals test a b) ≡ count_by test (seconds a b)
seconds_of_intervals test a b =
    let one : ℕ → ℕ = λ t. cond (test t) 1 0 in
    let starts = filter (starts_at test a) (seconds a b) in
    sum_by-map duration (interval_from test b) starts
    ∙ sum_of_same (λ s. duration (interval_from test b s)) (λ s. sum_by one (seconds s (s + prefix_len test (seconds s b)))) starts (λ s. sym (own_seconds test b s))
    ∙ sym (sum_by-map (λ (i : Interval). sum_by one (seconds i.since i.until)) (interval_from test b) starts)
    ∙ sym (sum_of_parts one test a b (λ t off. ap (λ (c : Bool). cond {A = ℕ} c 1 0) off))

pub rows_are_without_supply : RowsAreWithoutSupply
rows_are_without_supply b sound =
    let first = first_second_of b.period in
    let end = end_second_of b.period in
    let dark : Customer → ℕ → Bool = is_without_supply (is_deenergized b.network b.entries) in
    over_customers b row_seconds (λ v. duration) (λ v feeder s i home. refl) sound.state.sections
    ∙ sum_of_same (λ c. sum_by duration (interruptions b.network b.entries b.period c)) (λ c. count_by (dark c) (seconds first end)) b.customers (λ c. seconds_of_intervals (dark c) first end)
    ∙ swap_sums (λ (c : Customer) (s : ℕ). cond (dark c s) 1 0) b.customers (seconds first end)

-- ---- counts
among_is : (b : BookState) (which : Which) (v feeder : ℕ) (s : Service) (i : Interval) → is_among which (row_of b v feeder s i) ≡ is_counted b.period b.marks which i
among_is b All v feeder s i = refl
among_is b Unmarked v feeder s i = refl

times_one : (t u : Bool) (n k : ℕ) → cond (t && u) (n * k) 0 ≡ n * cond t (cond u k 0) 0
times_one true true n k = refl
times_one true false n k = omega arith
times_one false u n k = omega arith

ones : (t u : Bool) (n : ℕ) → cond (t && u) n 0 ≡ n * cond t (cond u 1 0) 0
ones true true n = omega arith
ones true false n = omega arith
ones false u n = omega arith

module _ (b : BookState) (which : Which) (sound : IsSoundState b) (long : Interval → Bool) where
  abbrev passes : Interval → Bool
  passes i = is_counted b.period b.marks which i

  -- the customers of the rows that pass
  pub counted_rows : customers_of_rows (λ r. is_among which r && long (interval_of r)) (interruption_rows b) ≡ sum_by (λ c. count_by long (counted b.network b.entries b.period b.marks which c)) b.customers
  counted_rows =
      let h : Interval → ℕ = λ i. cond (passes i) (cond (long i) 1 0) 0 in
      let value : InterruptionRow → ℕ = λ r. cond (is_among which r && long (interval_of r)) r.customers 0 in
      sym (sum_of_passing (λ (r : InterruptionRow). is_among which r && long (interval_of r)) (λ r. r.customers) (interruption_rows b))
      ∙ over_customers b value (λ v. h) (λ v feeder s i home. ap (λ (t : Bool). cond (t && long i) (customers_with b.customers v s) 0) (among_is b which v feeder s i) ∙ ones (passes i) (long i) (customers_with b.customers v s)) sound.state.sections
      ∙ sum_of_same (λ c. sum_by h (interruptions b.network b.entries b.period c)) (λ c. count_by long (counted b.network b.entries b.period b.marks which c)) b.customers
      (λ c. sum_of_passing passes (λ i. cond (long i) 1 0) (interruptions b.network b.entries b.period c))

  -- their customer-seconds
  pub timed_rows : seconds_of_rows (λ r. is_among which r && long (interval_of r)) (interruption_rows b) ≡ sum_by (λ c. sum_by duration (filter long (counted b.network b.entries b.period b.marks which c))) b.customers
  timed_rows =
      let h : Interval → ℕ = λ i. cond (passes i) (cond (long i) (duration i) 0) 0 in
      let value : InterruptionRow → ℕ = λ r. cond (is_among which r && long (interval_of r)) (row_seconds r) 0 in
      sym (sum_of_passing (λ (r : InterruptionRow). is_among which r && long (interval_of r)) row_seconds (interruption_rows b))
      ∙ over_customers b value (λ v. h) (λ v feeder s i home. ap (λ (t : Bool). cond (t && long i) (customers_with b.customers v s * duration i) 0) (among_is b which v feeder s i) ∙ times_one (passes i) (long i) (customers_with b.customers v s) (duration i)) sound.state.sections
      ∙ sum_of_same (λ c. sum_by h (interruptions b.network b.entries b.period c)) (λ c. sum_by duration (filter long (counted b.network b.entries b.period b.marks which c))) b.customers
      (λ c. sum_of_passing passes (λ i. cond (long i) (duration i) 0) (interruptions b.network b.entries b.period c)
      ∙ sum_of_passing long duration (counted b.network b.entries b.period b.marks which c))

pub sustained_rows_are_counted : SustainedRowsAreCounted
sustained_rows_are_counted b which sound = counted_rows b which sound is_sustained

pub sustained_rows_are_timed : SustainedRowsAreTimed
sustained_rows_are_timed b which sound = timed_rows b which sound is_sustained

pub momentary_rows_are_counted : MomentaryRowsAreCounted
momentary_rows_are_counted b which sound = counted_rows b which sound is_momentary

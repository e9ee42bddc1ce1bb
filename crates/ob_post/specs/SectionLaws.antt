-- How customer-seconds by key are those of the sections' runs, and how they change with the roll.
use Rattle.std.specs.Prelude.{◌≡◌, ℕ, ◌+◌, ◌<◌, ◌==◌, List, [], ◌∷◌, Some, IsSome, length}
use Rattle.std.specs.List.{All, AllPairs, find, range_with_len, sum_by}
use Rattle.ob_net.specs.Network.{Network, home_feeder}
use Rattle.ob_base.specs.Seconds.{seconds}
use Rattle.ob_base.specs.declared.interval.Interval.{Interval}
use Rattle.ob_sheet.specs.declared.Entry.{Entry}
use Rattle.ob_cust.specs.declared.Customer.{Customer}
use Rattle.ob_cust.specs.Roll.{with_customer}
use Rattle.ob_sweep.specs.Runs.{History, history, runs_between}
use Rattle.ob_sweep.specs.declared.Run.{Run}
use Rattle.ob_post.specs.CustomerSeconds.{Days, customer_seconds_by}
use Rattle.ob_post.specs.RunAmounts.{section_seconds_by}
use Rattle.ob_post.specs.SectionAmounts.{run_cause, amount_of_runs, amount_at, LieWithin, with_changed}
use Rattle.ob_post.specs.declared.Dim.{Dim}

-- each customer is connected to a section
abbrev pub AreOnSections : Network → List Customer → Type 0
AreOnSections net roll = All (λ c. IsSome (home_feeder net c.section)) roll

-- the runs of a section lie between the bounds that they are taken in
abbrev pub RunsLieWithin : Type 0
RunsLieWithin = (v : ℕ) (h : History) (a b : ℕ) → LieWithin a b (runs_between v h a b)

-- a section's customer-seconds over the period are those of its runs
abbrev pub SectionByRuns : Type 0
SectionByRuns =
    (net : Network) (entries : List Entry) (roll : List Customer) (p : Days) (v feeder : ℕ) (dim : Dim) (key : ℕ) → home_feeder net v ≡ Some feeder
    → section_seconds_by net entries roll p v (seconds p.first p.end) dim key ≡ amount_of_runs entries roll p.days feeder (runs_between v (history net entries v) p.first p.end) dim key

-- all customer-seconds are those of the sections together
abbrev pub BySection : Type 0
BySection =
    (net : Network) (entries : List Entry) (roll : List Customer) (p : Days) (n : ℕ) (dim : Dim) (key : ℕ) → All (λ c. c.section < n) roll
    → customer_seconds_by net entries roll p dim key ≡ sum_by (λ v. section_seconds_by net entries roll p v (seconds p.first p.end) dim key) (range_with_len 0 n)

-- all customer-seconds are those of the runs of all nodes together
abbrev pub ByRuns : Type 0
ByRuns =
    (net : Network) (entries : List Entry) (roll : List Customer) (p : Days) (dim : Dim) (key : ℕ) → AreOnSections net roll
    → customer_seconds_by net entries roll p dim key ≡ sum_by (λ v. amount_at net entries roll p v dim key) (range_with_len 0 (length net.nodes))

-- the amounts of runs whose causes stay are the same
abbrev pub SameByCause : Type 0
SameByCause =
    (old new : List Entry) (roll : List Customer) (days : List Interval) (feeder : ℕ) (runs : List Run) (dim : Dim) (key : ℕ) → All (λ r. run_cause new r ≡ run_cause old r) runs
    → amount_of_runs new roll days feeder runs dim key ≡ amount_of_runs old roll days feeder runs dim key

-- without customers there are no customer-seconds
abbrev pub Nobody : Type 0
Nobody = (net : Network) (entries : List Entry) (p : Days) (dim : Dim) (key : ℕ) → customer_seconds_by net entries [] p dim key ≡ 0

-- the customer-seconds of one customer are those of its section's runs
abbrev pub OneCustomer : Type 0
OneCustomer =
    (net : Network) (entries : List Entry) (c : Customer) (p : Days) (feeder : ℕ) (dim : Dim) (key : ℕ) → home_feeder net c.section ≡ Some feeder
    → customer_seconds_by net entries (c ∷ []) p dim key ≡ amount_of_runs entries (c ∷ []) p.days feeder (runs_between c.section (history net entries c.section) p.first p.end) dim key

-- a customer that is connected adds its own customer-seconds
abbrev pub Connected : Type 0
Connected =
    (net : Network) (entries : List Entry) (c : Customer) (roll : List Customer) (p : Days) (dim : Dim) (key : ℕ)
    → customer_seconds_by net entries (with_customer c roll) p dim key ≡ customer_seconds_by net entries roll p dim key + customer_seconds_by net entries (c ∷ []) p dim key

-- the same for the amounts of runs
abbrev pub ConnectedToRuns : Type 0
ConnectedToRuns =
    (entries : List Entry) (c : Customer) (roll : List Customer) (days : List Interval) (feeder : ℕ) (runs : List Run) (dim : Dim) (key : ℕ)
    → amount_of_runs entries (with_customer c roll) days feeder runs dim key ≡ amount_of_runs entries roll days feeder runs dim key + amount_of_runs entries (c ∷ []) days feeder runs dim key

-- of a customer that changes, its old customer-seconds go and its new ones come
abbrev pub Changed : Type 0
Changed =
    (net : Network) (entries : List Entry) (number : ℕ) (change : Customer → Customer) (c : Customer) (roll : List Customer) (p : Days) (dim : Dim) (key : ℕ)
    → AllPairs (λ a b. a.no < b.no) roll → find (λ d. d.no == number) roll ≡ Some c
    → customer_seconds_by net entries (with_changed number change roll) p dim key + customer_seconds_by net entries (c ∷ []) p dim key
    ≡ customer_seconds_by net entries roll p dim key + customer_seconds_by net entries (change c ∷ []) p dim key

-- the same for the amounts of runs
abbrev pub ChangedInRuns : Type 0
ChangedInRuns =
    (entries : List Entry) (number : ℕ) (change : Customer → Customer) (c : Customer) (roll : List Customer) (days : List Interval) (feeder : ℕ) (runs : List Run) (dim : Dim) (key : ℕ)
    → AllPairs (λ a b. a.no < b.no) roll → find (λ d. d.no == number) roll ≡ Some c
    → amount_of_runs entries (with_changed number change roll) days feeder runs dim key + amount_of_runs entries (c ∷ []) days feeder runs dim key
    ≡ amount_of_runs entries roll days feeder runs dim key + amount_of_runs entries (change c ∷ []) days feeder runs dim key

-- The customer-seconds of a section from its runs, each under the cause that its cutter has now.
use Rattle.std.specs.Prelude.{ℕ, ◌≤◌, ◌<◌, List, map, if◌then◌else◌, ◌==◌}
use Rattle.std.specs.List.{All, sum_by}
use Rattle.std.specs.Option.{option_map_or}
use Rattle.ob_net.specs.Network.{Network, home_feeder}
use Rattle.ob_base.specs.declared.interval.Interval.{Interval}
use Rattle.ob_sheet.specs.declared.Entry.{Entry}
use Rattle.ob_sheet.specs.Order.{cause_of}
use Rattle.ob_cust.specs.declared.Customer.{Customer}
use Rattle.ob_sweep.specs.Runs.{history, runs_between}
use Rattle.ob_sweep.specs.declared.Run.{Run}
use Rattle.ob_post.specs.CustomerSeconds.{Days}
use Rattle.ob_post.specs.RunAmounts.{customer_seconds_in}
use Rattle.ob_post.specs.declared.Dim.{Dim}

-- the cause that a run is posted to: the one that its cutter has now; 0, unassigned, where there is no cutter
abbrev pub run_cause : List Entry → Run → ℕ
run_cause entries r = option_map_or (cause_of entries) r.cutter 0

-- the customer-seconds of some runs, of sections of this home feeder, that count under a key of a dimension
abbrev pub amount_of_runs : List Entry → List Customer → List Interval → ℕ → List Run → Dim → ℕ → ℕ
amount_of_runs entries roll days feeder runs dim key = sum_by (λ r. customer_seconds_in roll r (run_cause entries r) feeder days dim key) runs

-- the customer-seconds of some runs, of sections of this home feeder, each posted to the cause beside it, that count under a key of a
-- dimension
abbrev pub amount_of_posted : List Customer → List Interval → ℕ → List (Run × ℕ) → Dim → ℕ → ℕ
amount_of_posted roll days feeder posted dim key = sum_by (λ p. customer_seconds_in roll p.0 p.1 feeder days dim key) posted

-- the customer-seconds of the runs that a node has in the period, where it is a section; else 0
abbrev pub amount_at : Network → List Entry → List Customer → Days → ℕ → Dim → ℕ → ℕ
amount_at net entries roll p v dim key =
    option_map_or (λ feeder. amount_of_runs entries roll p.days feeder (runs_between v (history net entries v) p.first p.end) dim key) (home_feeder net v) 0

-- each run has some second, and lies from a up to b
abbrev pub LieWithin : ℕ → ℕ → List Run → Type 0
LieWithin a b runs = All (λ r. (a ≤ r.since) × (r.since < r.until) × (r.until ≤ b)) runs

-- the roll once the customer with a number has changed
abbrev pub with_changed : ℕ → (Customer → Customer) → List Customer → List Customer
with_changed number change roll = map (λ c. if c.no == number then change c else c) roll

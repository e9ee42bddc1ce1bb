-- The customer-seconds of one run by cause, feeder and day.
use Rattle.std.specs.Prelude.{◌≡◌, ℕ, ◌<◌, ◌≤◌, ◌==◌, ◌&&◌, Bool, IsTrue, List, Some, max, min, slice_get, if◌then◌else◌}
use Rattle.std.specs.Option.{option_map_or}
use Rattle.ob_net.specs.Network.{Network, home_feeder}
use Rattle.ob_base.specs.Seconds.{seconds}
use Rattle.ob_base.specs.declared.interval.Interval.{Interval}
use Rattle.ob_sheet.specs.declared.Entry.{Entry}
use Rattle.ob_sheet.specs.Supply.{is_deenergized}
use Rattle.ob_cust.specs.declared.Customer.{Customer}
use Rattle.ob_cust.specs.Service.{in_service, served_seconds}
use Rattle.ob_cust.specs.WithoutSupply.{customer_seconds, is_without_supply}
use Rattle.ob_sweep.specs.Runs.{cause_at}
use Rattle.ob_sweep.specs.declared.Run.{Run}
use Rattle.ob_post.specs.CustomerSeconds.{Days, has_key, is_in_day}
use Rattle.ob_post.specs.declared.Dim.{Dim}
use Rattle.ob_post.specs.declared.Dim.TheVariants.{Cause, Feeder, Day}

-- a second of a run of this cause, on a section of this feeder, counts under this key of the dimension
abbrev pub counts_under : ℕ → ℕ → List Interval → Dim → ℕ → ℕ → Bool
counts_under cause feeder days Cause key s = cause == key
counts_under cause feeder days Feeder key s = feeder == key
counts_under cause feeder days Day key s = is_in_day days key s

-- one for each second of the run and each customer of its section that is in service then, where the second counts under the key
abbrev pub customer_seconds_in : List Customer → Run → ℕ → ℕ → List Interval → Dim → ℕ → ℕ
customer_seconds_in roll run cause feeder days dim key =
    customer_seconds (λ c s. in_service c s && (c.section == run.section && counts_under cause feeder days dim key s)) (seconds run.since run.until) roll

-- the same as seconds of service: over the whole run for its cause and its feeder, and for a day over the part of the run in it
abbrev pub served_in : List Customer → Run → ℕ → ℕ → List Interval → Dim → ℕ → ℕ
served_in roll run cause feeder days Cause key = if cause == key then served_seconds roll run.section run.since run.until else 0
served_in roll run cause feeder days Feeder key = if feeder == key then served_seconds roll run.section run.since run.until else 0
served_in roll run cause feeder days Day key =
    option_map_or (λ d. served_seconds roll run.section (max run.since d.since) (min run.until d.until)) (slice_get days key) 0

-- the run is one of this network under this sheet: at each of its seconds its section is de-energized, and the second is
-- posted to this cause; the section has this home feeder
pub record IsRunOf (net : Network) (entries : List Entry) (p : Days) (run : Run) (cause feeder : ℕ) : Type 0 where
  pub home : home_feeder net run.section ≡ Some feeder
  pub deenergized : (s : ℕ) → run.since ≤ s → s < run.until → IsTrue (is_deenergized net entries run.section s)
  pub posted : (s : ℕ) → run.since ≤ s → s < run.until → cause_at net entries p.first run.section s ≡ cause

-- the customer-seconds without supply of the customers of one section, over these seconds, that count under a key of a dimension
abbrev pub section_seconds_by : Network → List Entry → List Customer → Days → ℕ → List ℕ → Dim → ℕ → ℕ
section_seconds_by net entries roll p v when dim key =
    customer_seconds (λ c s. c.section == v && (is_without_supply (is_deenergized net entries) c s && has_key net entries p dim key c s)) when roll

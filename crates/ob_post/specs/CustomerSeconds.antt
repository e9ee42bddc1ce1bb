-- Customer-seconds without supply by cause, feeder and day: ones, summed over the seconds and the customers.
use Rattle.std.specs.Prelude.{ℕ, ◌==◌, ◌&&◌, Bool, false, nat_le, nat_lt, List, slice_get}
use Rattle.std.specs.Option.{option_map_or}
use Rattle.ob_net.specs.Network.{Network, home_feeder}
use Rattle.ob_base.specs.Seconds.{seconds}
use Rattle.ob_base.specs.declared.interval.Interval.{Interval}
use Rattle.ob_sheet.specs.declared.Entry.{Entry}
use Rattle.ob_sheet.specs.Supply.{is_deenergized}
use Rattle.ob_cust.specs.declared.Customer.{Customer}
use Rattle.ob_cust.specs.WithoutSupply.{customer_seconds, is_without_supply}
use Rattle.ob_sweep.specs.Runs.{cause_at}
use Rattle.ob_post.specs.declared.Dim.{Dim}
use Rattle.ob_post.specs.declared.Dim.TheVariants.{Cause, Feeder, Day}

-- the seconds of a period, and its days in order
pub record Days : Type 0 where
  pub first : ℕ
  pub end : ℕ
  pub days : List Interval

-- the second lies in the day of this number
abbrev pub is_in_day : List Interval → ℕ → ℕ → Bool
is_in_day days day s = option_map_or (λ d. nat_le d.since s && nat_lt s d.until) (slice_get days day) false

-- the customer-second counts under this key of the dimension
abbrev pub has_key : Network → List Entry → Days → Dim → ℕ → Customer → ℕ → Bool
has_key net entries p Cause code c s = cause_at net entries p.first c.section s == code
has_key net entries p Feeder feeder c s = option_map_or (λ f. f == feeder) (home_feeder net c.section) false
has_key net entries p Day day c s = is_in_day p.days day s

-- the customer-seconds without supply that count under a key of a dimension
abbrev pub customer_seconds_by : Network → List Entry → List Customer → Days → Dim → ℕ → ℕ
customer_seconds_by net entries roll p dim key =
    customer_seconds (λ c s. is_without_supply (is_deenergized net entries) c s && has_key net entries p dim key c s) (seconds p.first p.end) roll

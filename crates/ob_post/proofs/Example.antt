-- The worked feeder with a tie, at a hundredth of its times: 100 seconds, B1 open at 36, W1 open and T1 closed at 42,
-- B1 closed at 72. S1, where two customers are, is without supply from 36 up to 72; S2, where three are, until 42.
use Rattle.std.proofs.Common.{◌≡◌, ℕ, List, [], ◌∷◌, refl, Option, Some, None, true, codes}
use Rattle.ob_base.specs.Life.{whole_life}
use Rattle.ob_base.specs.declared.Pos.{Pos}
use Rattle.ob_base.specs.declared.Pos.TheVariants.{Opened, Closed}
use Rattle.ob_net.specs.declared.net.Node.{Node}
use Rattle.ob_net.specs.declared.net.Device.{Device}
use Rattle.ob_net.specs.Network.{Network}
use Rattle.ob_base.specs.Seconds.{seconds}
use Rattle.ob_net.specs.Walk.{is_supplied, is_connected}
use Rattle.ob_sheet.specs.Supply.{is_deenergized}
use Rattle.ob_sheet.specs.declared.Entry.{Entry}
use Rattle.ob_cust.specs.WithoutSupply.{seconds_without_supply}
use Rattle.ob_cust.specs.declared.Customer.{Customer}
use Rattle.ob_sweep.specs.Runs.{cause_at, history, runs_between}
use Rattle.ob_post.specs.CustomerSeconds.{Days, customer_seconds_by}
use Rattle.ob_post.specs.SectionAmounts.{amount_at, amount_of_runs}
use Rattle.ob_post.specs.declared.Dim.TheVariants.{Cause, Feeder, Day}

abbrev node : List ℕ → Option ℕ → Node
node name feeder = record { name = name; feeder = feeder }

abbrev device : List ℕ → ℕ → ℕ → Pos → Device
device name a b normal = record { name = name; a = a; b = b; normal = normal; life = whole_life }

abbrev net : Network
net = record {
  nodes = node (codes "GRID") None ∷ node (codes "BUS-A") None ∷ node (codes "S1") (Some 1) ∷ node (codes "S2") (Some 1) ∷ node (codes "S3") (Some 2) ∷ [];
  devices =
      device (codes "I1") 0 1 Closed ∷ device (codes "B1") 1 2 Closed ∷ device (codes "W1") 2 3 Closed ∷ device (codes "B2") 1 4 Closed
      ∷ device (codes "T1") 3 4 Opened ∷ [];
}

abbrev entry : ℕ → ℕ → Pos → ℕ → Entry
entry number d pos s = record { «no» = number; rev = 1; device = d; pos = pos; second = s; cause = 3; crew = codes "K1"; kept = true }

abbrev sheet : List Entry
sheet = entry 1 1 Opened 36 ∷ entry 2 2 Opened 42 ∷ entry 3 4 Closed 42 ∷ entry 4 1 Closed 72 ∷ []

abbrev customer : ℕ → ℕ → Customer
customer number v = record { «no» = number; section = v; since = 0; until = None }

abbrev roll : List Customer
roll =
    customer 1 2 ∷ customer 2 2 ∷ customer 3 3 ∷ customer 4 3 ∷ customer 5 3 ∷ customer 6 4 ∷ customer 7 4 ∷ customer 8 4 ∷ customer 9 4 ∷ customer 10 4
    ∷ []

-- two days of 50 seconds
abbrev days : Days
days = record { first = 0; end = 100; days = record { since = 0; until = 50 } ∷ record { since = 50; until = 100 } ∷ [] }

total : seconds_without_supply (is_deenergized net sheet) (seconds 0 100) roll ≡ 90
unfolding is_supplied is_connected
total = refl

of_cause : customer_seconds_by net sheet roll days Cause 3 ≡ 90
unfolding is_supplied is_connected
of_cause = refl

of_feeder : customer_seconds_by net sheet roll days Feeder 1 ≡ 90
unfolding is_supplied is_connected
of_feeder = refl

-- the run of S1 crosses the days' bound: 2 customers from 36 up to 50 and 3 from 36 up to 42 lie in the first
of_first_day : customer_seconds_by net sheet roll days Day 0 ≡ 46
unfolding is_supplied is_connected
of_first_day = refl

of_second_day : customer_seconds_by net sheet roll days Day 1 ≡ 44
unfolding is_supplied is_connected
of_second_day = refl

-- S2 is without supply from 36 up to 42, cut off by entry 1
runs_of_s2 : runs_between 3 (history net sheet 3) 0 100 ≡ record { section = 3; since = 36; until = 42; cutter = Some 1 } ∷ []
unfolding is_supplied is_connected
runs_of_s2 = refl

-- the second 60 of S1 is posted to cause 3
cause_of_s1 : cause_at net sheet 0 2 60 ≡ 3
unfolding is_supplied is_connected
cause_of_s1 = refl

-- that run, of 6 seconds and 3 customers, is posted to its cutter's cause
run_of_s2 : amount_of_runs sheet roll days.days 1 (record { section = 3; since = 36; until = 42; cutter = Some 1 } ∷ []) Cause 3 ≡ 18
run_of_s2 = refl

-- the runs of S1 give its 2 customers' 36 seconds
runs_of_s1 : amount_at net sheet roll days 2 Feeder 1 ≡ 72
unfolding is_supplied is_connected
runs_of_s1 = refl

-- Two histories that differ in one device, worked by hand: B1 joins GRID to S1, D joins S1 to S2, E joins S2 to S3, and the tie T, which
-- is open at first, joins S3 to GRID. B1 is opened at 3 and closed at 4, E is opened at 5, and T is closed at 6. D is opened at 2 in the
-- one history, and stays closed in the other.
use Rattle.std.proofs.Common.{◌≡◌, ℕ, List, [], ◌∷◌, refl, Option, Some, None, map, codes, slice_index_or, Bool, false, ◌==◌, ◌||◌}
use Rattle.ob_net.specs.Network.{Network}
use Rattle.ob_net.specs.Walk.{is_supplied, is_connected}
use Rattle.ob_base.specs.declared.Pos.TheVariants.{Opened, Closed}
use Rattle.ob_base.specs.declared.Pos.{Pos}
use Rattle.ob_net.specs.declared.net.Device.{Device}
use Rattle.ob_net.specs.declared.net.Node.{Node}
use Rattle.ob_sweep.specs.Moments.{Moment, section_history}
use Rattle.ob_sweep.specs.Differences.{IsIndifferent, Supplies}
use Rattle.ob_sweep.specs.Runs.{History, runs_between}
use Rattle.ob_sweep.specs.declared.Run.{Run}

abbrev node : List ℕ → Option ℕ → Node
node name feeder = record { name = name; feeder = feeder }

abbrev device : List ℕ → ℕ → ℕ → Pos → Device
device name a b normal = record { name = name; a = a; b = b; normal = normal; life = record { since = 0; until = None } }

abbrev net : Network
net = record {
  nodes = node (codes "GRID") None ∷ node (codes "S1") (Some 1) ∷ node (codes "S2") (Some 1) ∷ node (codes "S3") (Some 1) ∷ [];
  devices = device (codes "B1") 0 1 Closed ∷ device (codes "D") 1 2 Closed ∷ device (codes "E") 2 3 Closed ∷ device (codes "T") 3 0 Opened ∷ [];
}

abbrev lit : Supplies
lit v positions = is_supplied net positions v

abbrev run : ℕ → ℕ → ℕ → Option ℕ → Run
run v since until cutter = record { section = v; since = since; until = until; cutter = cutter }

-- the positions of B1, D, E and T
abbrev at : Pos → Pos → Pos → Pos → List Pos
at b d e t = b ∷ d ∷ e ∷ t ∷ []

abbrev still : List Pos → Moment
still positions = record { before = positions; steps = [] }

abbrev one : List Pos → ℕ → List Pos → Moment
one positions number later = record { before = positions; steps = record { «no» = number; after = later } ∷ [] }

-- the seconds from 0 up to 8, where D is moved to a position at 2 by the entry 9
abbrev seconds_with : Pos → List Moment
seconds_with d =
    still (at Closed Closed Closed Opened)
    ∷ still (at Closed Closed Closed Opened)
    ∷ one (at Closed Closed Closed Opened) 9 (at Closed d Closed Opened)
    ∷ one (at Closed d Closed Opened) 1 (at Opened d Closed Opened)
    ∷ one (at Opened d Closed Opened) 2 (at Closed d Closed Opened)
    ∷ one (at Closed d Closed Opened) 3 (at Closed d Opened Opened)
    ∷ one (at Closed d Opened Opened) 4 (at Closed d Opened Closed)
    ∷ still (at Closed d Opened Closed)
    ∷ []

abbrev history_with : Pos → ℕ → History
history_with d v = section_history (lit v) (λ s. slice_index_or (seconds_with d) s (still []))

abbrev runs_with : Pos → ℕ → ℕ → ℕ → List Run
runs_with d v a b = runs_between v (history_with d v) a b

-- while D is closed
closed_S1 : runs_with Closed 1 0 8 ≡ run 1 3 4 (Some 1) ∷ []
unfolding is_supplied is_connected
closed_S1 = refl

closed_S2 : runs_with Closed 2 0 8 ≡ run 2 3 4 (Some 1) ∷ []
unfolding is_supplied is_connected
closed_S2 = refl

closed_S3 : runs_with Closed 3 0 8 ≡ run 3 3 4 (Some 1) ∷ run 3 5 6 (Some 3) ∷ []
unfolding is_supplied is_connected
closed_S3 = refl

-- once it is opened
opened_S1 : runs_with Opened 1 0 8 ≡ run 1 3 4 (Some 1) ∷ []
unfolding is_supplied is_connected
opened_S1 = refl

opened_S2 : runs_with Opened 2 0 8 ≡ run 2 2 8 (Some 9) ∷ []
unfolding is_supplied is_connected
opened_S2 = refl

opened_S3 : runs_with Opened 3 0 8 ≡ run 3 2 6 (Some 9) ∷ []
unfolding is_supplied is_connected
opened_S3 = refl

-- the stretch from 3 up to 5: S2 and S3 are supplied through D alone, whose other end is S1, at all positions of these seconds
abbrev through_D : ℕ → Bool
through_D v = v == 2 || v == 3

-- where D is open neither has supply, and no entry cuts it off
stretch_opened : runs_with Opened 2 3 5 ≡ run 2 3 5 None ∷ []
unfolding is_supplied is_connected
stretch_opened = refl

-- where it is closed they have the runs of S1
stretch_closed : runs_with Closed 3 3 5 ≡ map {A = Run} (λ r. record r { section = 3 }) (runs_with Closed 1 3 5)
unfolding is_supplied is_connected
stretch_closed = refl

-- S1, outside the set, has its own
stretch_outside : runs_with Opened 1 3 5 ≡ runs_with Closed 1 3 5
unfolding is_supplied is_connected
stretch_outside = refl

-- S2 is supplied through D after B1 was opened at 3, too
opened_then : lit 2 (at Opened Opened Closed Opened) ≡ false
unfolding is_supplied is_connected
opened_then = refl

closed_then : lit 2 (at Opened Closed Closed Opened) ≡ lit 1 (at Opened Opened Closed Opened)
unfolding is_supplied is_connected
closed_then = refl

-- once E is opened S3 isn't, and D makes no difference to it
apart_then : IsIndifferent lit 1 3 (at Closed Closed Opened Opened)
unfolding is_supplied is_connected
apart_then = refl

-- and where T is closed D makes no difference to anything while E is closed
joined_then : IsIndifferent lit 1 2 (at Closed Closed Closed Closed)
unfolding is_supplied is_connected
joined_then = refl

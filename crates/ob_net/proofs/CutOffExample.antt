-- What a device cuts off, worked by hand: B1 joins GRID to S1, D joins S1 to S2, E joins S2 to S3, and the tie T joins S3 to GRID. The
-- four are closed, but for T, which is open at first. Then D cuts off S2 and S3; once T is closed, it cuts nothing off.
use Rattle.std.proofs.Common.{◌≡◌, ℕ, ◌==◌, ◌||◌, List, [], ◌∷◌, refl, None, Some, true, false, codes, map}
use Rattle.ob_base.specs.declared.Pos.{Pos}
use Rattle.ob_base.specs.declared.Pos.TheVariants.{Opened, Closed}
use Rattle.ob_net.specs.CutOff.{other_closed, other_closed_within}
use Rattle.ob_net.specs.declared.net.Device.{Device}
use Rattle.ob_net.specs.Network.{Network}
use Rattle.ob_net.specs.Walk.{is_connected, is_supplied}

abbrev device : List ℕ → ℕ → ℕ → Pos → Device
device name a b normal = record { name = name; a = a; b = b; normal = normal; life = record { since = 0; until = None } }

abbrev net : Network
net = record {
  nodes = record { name = codes "GRID"; feeder = None } ∷ record { name = codes "S1"; feeder = Some 1 } ∷ record { name = codes "S2"; feeder = Some 1 } ∷ record { name = codes "S3"; feeder = Some 1 } ∷ [];
  devices = device (codes "B1") 0 1 Closed ∷ device (codes "D") 1 2 Closed ∷ device (codes "E") 2 3 Closed ∷ device (codes "T") 3 0 Opened ∷ [];
}

-- the positions of B1, D, E and T
abbrev at : Pos → Pos → Pos → Pos → List Pos
at b d e t = b ∷ d ∷ e ∷ t ∷ []

abbrev nodes : List ℕ
nodes = 0 ∷ 1 ∷ 2 ∷ 3 ∷ []

-- with T open, other devices than D connect S2 and S3 to its end at S2, and neither GRID nor S1
cut_off : map (λ v. is_connected (other_closed net (at Closed Closed Closed Opened) 1) v 2) nodes ≡ false ∷ false ∷ true ∷ true ∷ []
unfolding is_connected
cut_off = refl

-- these two are supplied where D is closed alone
supplied : map (is_supplied net (at Closed Closed Closed Opened)) nodes ≡ true ∷ true ∷ true ∷ true ∷ []
unfolding is_supplied is_connected
supplied = refl

not_supplied : map (is_supplied net (at Closed Opened Closed Opened)) nodes ≡ true ∷ true ∷ false ∷ false ∷ []
unfolding is_supplied is_connected
not_supplied = refl

-- with T closed, other devices than D connect its ends by all four nodes, but not by S1, S2 and S3 alone
joined : is_connected (other_closed_within net (at Closed Closed Closed Closed) 1 (λ v. true)) 1 2 ≡ true
unfolding is_connected
joined = refl

not_without_grid : is_connected (other_closed_within net (at Closed Closed Closed Closed) 1 (λ v. v == 1 || v == 2 || v == 3)) 1 2 ≡ false
unfolding is_connected
not_without_grid = refl

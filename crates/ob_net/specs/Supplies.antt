-- Which nodes are supplied, kept while single devices are switched.
use Rattle.std.specs.Prelude.{◌≡◌, ◌≢◌, ℕ, ◌<◌, Bool, List, not, if◌then◌else◌, length}
use Rattle.std.specs.List.{All, AllPairs}
use Rattle.ob_base.specs.declared.Pos.{Pos}
use Rattle.ob_net.specs.Joints.{DeviceEnds, IsComponent, ends_of}
use Rattle.ob_net.specs.Network.{Network}
use Rattle.ob_net.specs.Nodes.{NodeList, is_among}
use Rattle.ob_net.specs.Reach.{is_reached}

-- how many nodes there are, each device's ends and position, which nodes are supplied, and the nodes whose supply the
-- last switching changed
pub record SupplyState : Type 0 where
  pub nodes : ℕ
  pub ends : List (ℕ × ℕ)
  pub positions : List Pos
  pub live : List Bool
  pub changed : List ℕ

-- the nodes and the devices' ends are those of the network
pub record IsOf (net : Network) (supply : SupplyState) : Type 0 where
  pub nodes : supply.nodes ≡ length net.nodes
  pub ends : supply.ends ≡ ends_of net.devices
  pub positions : length supply.positions ≡ length net.devices

-- the supply of the listed nodes is another than it was, that of every other node is as it was, and none is listed twice
pub record AreChanged (old new : List Bool) (nodes : List ℕ) : Type 0 where
  pub each : (v : ℕ) → is_reached new v ≡ (if is_among nodes v then not (is_reached old v) else is_reached old v)
  pub below : All (λ v. v < length old) nodes
  pub distinct : AllPairs (λ v w. v ≢ w) nodes

-- there is a position for each device, and a node is marked as supplied where closed devices connect it to GRID
pub record IsKept (joints : DeviceEnds) (positions : List Pos) (live : List Bool) (changed other : NodeList) : Type 0 where
  pub some : 0 < joints.nodes
  pub each : length positions ≡ length joints.ends
  pub count : length live ≡ joints.nodes
  pub changed_size : changed.size ≡ joints.nodes
  pub other_size : other.size ≡ joints.nodes
  pub supplied : IsComponent joints.ends positions 0 (is_reached live)

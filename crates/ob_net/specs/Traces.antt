-- Following closed devices from single nodes, as it is kept ready while positions change.
use Rattle.std.specs.Prelude.{◌≡◌, ◌<◌, ℕ, Bool, IsTrue, List, false, length}
use Rattle.ob_base.specs.declared.Pos.{Pos}
use Rattle.ob_net.specs.Joints.{DeviceEnds, IsAlikeWithin, IsComponent, ends_of}
use Rattle.ob_net.specs.Network.{Network}
use Rattle.ob_net.specs.Nodes.{NodeList, is_among}

-- how many nodes there are, each device's ends, and the nodes that the last search for what a device cuts off found
pub record TracerState : Type 0 where
  pub nodes : ℕ
  pub ends : List (ℕ × ℕ)
  pub found : List ℕ

-- the nodes and the devices' ends are those of the network
pub record IsTracerOf (net : Network) (tracer : TracerState) : Type 0 where
  pub nodes : tracer.nodes ≡ length net.nodes
  pub ends : tracer.ends ≡ ends_of net.devices

-- there is a node, and each of the sets is for all nodes
pub record HasSets (joints : DeviceEnds) (found other live dead : NodeList) : Type 0 where
  pub some : 0 < joints.nodes
  pub found_size : found.size ≡ joints.nodes
  pub other_size : other.size ≡ joints.nodes
  pub live_size : live.size ≡ joints.nodes
  pub dead_size : dead.size ≡ joints.nodes

-- the closed devices connect the listed nodes, and no other, to the node y; neither GRID nor the node x is listed
pub record IsPartWithout (ends : List (ℕ × ℕ)) (positions : List Pos) (x y : ℕ) (nodes : List ℕ) : Type 0 where
  pub part : IsComponent ends positions y (is_among nodes)
  pub grid : is_among nodes 0 ≡ false
  pub other : is_among nodes x ≡ false

-- closed devices between listed nodes connect the two nodes
abbrev pub AreConnectedWithin : List (ℕ × ℕ) → List Pos → ℕ → ℕ → List ℕ → Type 0
AreConnectedWithin ends positions v w nodes = (test : ℕ → Bool) → IsAlikeWithin (is_among nodes) test ends positions → test v ≡ test w

-- the test holds of the nodes of the one list and of none of the other
pub record AreTold (test : ℕ → Bool) (live dead : List ℕ) : Type 0 where
  pub of_live : (v : ℕ) → IsTrue (is_among live v) → IsTrue (test v)
  pub of_dead : (v : ℕ) → IsTrue (is_among dead v) → test v ≡ false

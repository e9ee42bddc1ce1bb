-- The ends of the devices, and for each node the devices that have it as an end.
use Rattle.std.specs.Prelude.{◌≡◌, ℕ, ◌<◌, ◌==◌, ◌||◌, Bool, IsTrue, List, zero, suc, if◌then◌else◌, length, map, slice_index_or}
use Rattle.std.specs.List.{All}
use Rattle.ob_base.specs.declared.Pos.{Pos}
use Rattle.ob_base.specs.declared.Pos.TheVariants.{Opened, Closed}
use Rattle.ob_net.specs.declared.net.Device.{Device}
use Rattle.ob_net.specs.Nodes.{is_among}

-- how many nodes there are, and the numbers of each device's two ends, by the device's number
pub record DeviceEnds : Type 0 where
  pub nodes : ℕ
  pub ends : List (ℕ × ℕ)

-- the ends of devices
abbrev pub ends_of : List Device → List (ℕ × ℕ)
ends_of devices = map (λ d. (d.a, d.b)) devices

-- the ends of the device with a number
abbrev pub ends_at : List (ℕ × ℕ) → ℕ → ℕ × ℕ
ends_at ends k = slice_index_or ends k (0, 0)

-- the node is one of the two ends
abbrev pub is_end : ℕ → ℕ × ℕ → Bool
is_end v ends = ends.0 == v || ends.1 == v

-- the end that isn't the node
abbrev pub other_end : ℕ → ℕ × ℕ → ℕ
other_end v ends = if ends.0 == v then ends.1 else ends.0

-- one more than the number of the last device at the node of those before the number k; 0 if none of them is at it
abbrev pub last_at : List (ℕ × ℕ) → ℕ → ℕ → ℕ
last_at ends v zero = 0
last_at ends v (suc k) = if is_end v (ends_at ends k) then suc k else last_at ends v k

-- both ends are nodes, of so many
abbrev pub AreNodes : ℕ → ℕ × ℕ → Type 0
AreNodes nodes ends = (ends.0 < nodes) × (ends.1 < nodes)

-- the device with a number is closed
abbrev pub IsClosedAt : List Pos → ℕ → Type 0
IsClosedAt positions k = slice_index_or positions k Opened ≡ Closed

-- the test says the same of both ends of each closed device
abbrev pub IsAlikeOver : (ℕ → Bool) → List (ℕ × ℕ) → List Pos → Type 0
IsAlikeOver test ends positions =
    (k : ℕ) → k < length ends → IsClosedAt positions k → test (ends_at ends k).0 ≡ test (ends_at ends k).1

-- the same, of the closed devices with both ends in a set
abbrev pub IsAlikeWithin : (ℕ → Bool) → (ℕ → Bool) → List (ℕ × ℕ) → List Pos → Type 0
IsAlikeWithin has test ends positions =
    (k : ℕ) → k < length ends → IsClosedAt positions k → IsTrue (has (ends_at ends k).0) → IsTrue (has (ends_at ends k).1)
    → test (ends_at ends k).0 ≡ test (ends_at ends k).1

-- each closed device at the node has its other end among the listed nodes
abbrev pub AreFollowed : List (ℕ × ℕ) → List Pos → ℕ → List ℕ → Type 0
AreFollowed ends positions v nodes =
    (k : ℕ) → k < length ends → IsClosedAt positions k → IsTrue (is_end v (ends_at ends k))
    → IsTrue (is_among nodes (other_end v (ends_at ends k)))

-- the test says of each listed node what it says of one node
abbrev pub AreSame : (ℕ → Bool) → ℕ → List ℕ → Type 0
AreSame test v nodes = All (λ w. test w ≡ test v) nodes

-- closed devices were followed from one node on: each listed node is connected to it, by listed nodes alone too, and the
-- closed devices at the first so many listed nodes lead to listed nodes
pub record IsExplored (ends : List (ℕ × ℕ)) (positions : List Pos) (start : ℕ) (nodes : List ℕ) (next : ℕ) : Type 0 where
  pub begins : IsTrue (is_among nodes start)
  pub same : (test : ℕ → Bool) → IsAlikeOver test ends positions → AreSame test start nodes
  pub within : (test : ℕ → Bool) → IsAlikeWithin (is_among nodes) test ends positions → AreSame test start nodes
  pub followed : (i : ℕ) → i < next → AreFollowed ends positions (slice_index_or nodes i 0) nodes

-- the nodes that the closed devices connect to one node, and no other: a test that says the same of both ends of each
-- closed device, and says of each of these nodes what any other such test says of the one
pub record IsComponent (ends : List (ℕ × ℕ)) (positions : List Pos) (start : ℕ) (has : ℕ → Bool) : Type 0 where
  pub at : IsTrue (has start)
  pub alike : IsAlikeOver has ends positions
  pub least : (v : ℕ) → IsTrue (has v) → (test : ℕ → Bool) → IsAlikeOver test ends positions → test v ≡ test start

-- What one device cuts off. The nodes that other closed devices connect to an end of it are without supply where it is open, if
-- neither GRID nor its other end is one of them, and are supplied from that other end where it is closed. Where other closed
-- devices connect its two ends, if only by GRID, its position makes no difference to any node.
use Rattle.std.specs.Prelude.{◌≡◌, ◌≢◌, ◌<◌, ◌&&◌, ℕ, Bool, IsTrue, false, List, length, set, slice_index_or}
use Rattle.std.specs.List.{filter}
use Rattle.ob_base.specs.declared.Pos.{Pos}
use Rattle.ob_base.specs.declared.Pos.TheVariants.{Opened, Closed}
use Rattle.ob_net.specs.Apart.{device_at, is_at}
use Rattle.ob_net.specs.declared.TheConstants.{GRID}
use Rattle.ob_net.specs.declared.net.Device.{Device}
use Rattle.ob_net.specs.Joints.{IsClosedAt}
use Rattle.ob_net.specs.Network.{Network}
use Rattle.ob_net.specs.Walk.{closed_among, has_ends, is_connected, is_supplied}

-- the closed devices without the one that has a number
abbrev pub other_closed : Network → List Pos → ℕ → List Device
other_closed net positions device = closed_among net.devices (set positions device Opened)

-- the device has the ends x and y, the set holds the nodes from which a walk of other closed devices leads to y and no
-- other, and neither GRID nor x is in it
pub record IsCutOff (net : Network) (positions : List Pos) (device x y : ℕ) (has : ℕ → Bool) : Type 0 where
  pub ends : IsTrue (has_ends x y (device_at net.devices device))
  pub each : (v : ℕ) → has v ≡ is_connected (other_closed net positions device) v y
  pub grid : has GRID ≡ false
  pub other : has x ≡ false

-- what a cut-off set tells of a node's supply: outside the set the device's position makes no difference; a node of the set
-- isn't supplied where the device is open, and is supplied where it is closed exactly if its other end x is
pub record IsSuppliedThrough (net : Network) (positions : List Pos) (device x : ℕ) (has : ℕ → Bool) (v : ℕ) : Type 0 where
  pub outside : has v ≡ false → is_supplied net (set positions device Opened) v ≡ is_supplied net (set positions device Closed) v
  pub opened : IsTrue (has v) → is_supplied net (set positions device Opened) v ≡ false
  pub closed : IsTrue (has v) → is_supplied net (set positions device Closed) v ≡ is_supplied net (set positions device Opened) x
  pub other : is_supplied net (set positions device Opened) x ≡ is_supplied net (set positions device Closed) x

-- what is cut off is supplied through the device alone
abbrev pub CutOffLaw : Type 0
CutOffLaw =
    (net : Network) (positions : List Pos) (device x y : ℕ) (has : ℕ → Bool) (v : ℕ) → device < length positions
    → IsCutOff net positions device x y has → IsSuppliedThrough net positions device x has v

-- the two lists have the same positions for the devices with an end in the set, one device excepted
abbrev pub AreAlikeAt : (ℕ → Bool) → ℕ → List Device → List Pos → List Pos → Type 0
AreAlikeAt has device devices ps qs =
    (k : ℕ) → k < length devices → k ≢ device → IsTrue (is_at has (device_at devices k)) → slice_index_or ps k Opened ≡ slice_index_or qs k Opened

-- what is cut off stays so, and the same nodes, while no other device with an end among them moves
abbrev pub StaysCutOffLaw : Type 0
StaysCutOffLaw =
    (net : Network) (ps qs : List Pos) (device x y : ℕ) (has : ℕ → Bool) → AreAlikeAt has device net.devices ps qs
    → IsCutOff net ps device x y has → IsCutOff net qs device x y has

-- both ends of the device are in the set
abbrev pub is_within : (ℕ → Bool) → Device → Bool
is_within has d = has d.a && has d.b

-- the closed devices between nodes of the set, without the one that has a number
abbrev pub other_closed_within : Network → List Pos → ℕ → (ℕ → Bool) → List Device
other_closed_within net positions device has = filter (is_within has) (other_closed net positions device)

-- a walk of other closed devices over nodes of the set leads from one end of the device to the other
abbrev pub IsJoined : Network → List Pos → ℕ → (ℕ → Bool) → Type 0
IsJoined net positions device has =
    IsTrue (is_connected (other_closed_within net positions device has) (device_at net.devices device).a (device_at net.devices device).b)

-- where its ends are joined without it, the device's position makes no difference
abbrev pub JoinedLaw : Type 0
JoinedLaw =
    (net : Network) (positions : List Pos) (device : ℕ) (has : ℕ → Bool) (v : ℕ) → IsJoined net positions device has
    → is_supplied net (set positions device Opened) v ≡ is_supplied net (set positions device Closed) v

-- each device between nodes of the set that is closed in the one list is so in the other one, one device excepted
abbrev pub AreClosedWithin : (ℕ → Bool) → ℕ → List Device → List Pos → List Pos → Type 0
AreClosedWithin has device devices ps qs =
    (k : ℕ) → k < length devices → k ≢ device → IsTrue (is_within has (device_at devices k)) → IsClosedAt ps k → IsClosedAt qs k

-- the ends stay joined while no other device between nodes of the set is opened
abbrev pub StaysJoinedLaw : Type 0
StaysJoinedLaw =
    (net : Network) (ps qs : List Pos) (device : ℕ) (has : ℕ → Bool) → AreClosedWithin has device net.devices ps qs
    → IsJoined net ps device has → IsJoined net qs device has

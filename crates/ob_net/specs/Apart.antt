-- Sets of nodes that closed devices join to no other node but GRID. Whether such a node is supplied depends on the devices at
-- the nodes of its set alone; whether another node is depends on all other devices alone.
use Rattle.std.specs.Prelude.{◌≡◌, ◌≢◌, ◌<◌, ◌||◌, ℕ, Bool, IsTrue, false, List, [], length, slice_index_or}
use Rattle.ob_base.specs.Life.{whole_life}
use Rattle.ob_base.specs.declared.Pos.{Pos}
use Rattle.ob_base.specs.declared.Pos.TheVariants.{Opened}
use Rattle.ob_net.specs.declared.TheConstants.{GRID}
use Rattle.ob_net.specs.declared.net.Device.{Device}
use Rattle.ob_net.specs.Joints.{IsClosedAt}
use Rattle.ob_net.specs.Network.{Network}
use Rattle.ob_net.specs.Walk.{is_supplied}

-- stands for a device that isn't there
abbrev pub no_device : Device
no_device = record { name = []; a = 0; b = 0; normal = Opened; life = whole_life }

-- the device with a number
abbrev pub device_at : List Device → ℕ → Device
device_at devices k = slice_index_or devices k no_device

-- one of the device's ends is in the set
abbrev pub is_at : (ℕ → Bool) → Device → Bool
is_at has d = has d.a || has d.b

-- a device without an end at GRID has both of its ends in the set, or neither
abbrev pub KeepsTo : (ℕ → Bool) → Device → Type 0
KeepsTo has d = d.a ≢ GRID → d.b ≢ GRID → has d.a ≡ has d.b

-- the closed ones of the first so many devices do
abbrev pub KeepTo : (ℕ → Bool) → List Device → List Pos → ℕ → Type 0
KeepTo has devices positions count = (k : ℕ) → k < count → IsClosedAt positions k → KeepsTo has (device_at devices k)

-- GRID isn't in the set, and no closed device joins a node of it to one outside but GRID
pub record IsApart (net : Network) (positions : List Pos) (has : ℕ → Bool) : Type 0 where
  pub grid : has GRID ≡ false
  pub keeps : KeepTo has net.devices positions (length net.devices)

-- the device's ends are in the set, GRID excepted; one of them is
pub record HasEnds (has : ℕ → Bool) (device : Device) : Type 0 where
  pub a : device.a ≢ GRID → IsTrue (has device.a)
  pub b : device.b ≢ GRID → IsTrue (has device.b)
  pub some : IsTrue (is_at has device)

-- the two lists have the same positions for the devices at nodes of the node's own side: where the node is in the set for
-- those with an end in it, else for those with none
abbrev pub AreAlikeFor : (ℕ → Bool) → ℕ → List Device → List Pos → List Pos → Type 0
AreAlikeFor has v devices ps qs =
    (k : ℕ) → k < length devices → is_at has (device_at devices k) ≡ has v → slice_index_or ps k Opened ≡ slice_index_or qs k Opened

-- what is apart is supplied by itself
abbrev pub ApartLaw : Type 0
ApartLaw =
    (net : Network) (ps qs : List Pos) (has : ℕ → Bool) (v : ℕ) → IsApart net ps has → IsApart net qs has
    → AreAlikeFor has v net.devices ps qs → is_supplied net ps v ≡ is_supplied net qs v

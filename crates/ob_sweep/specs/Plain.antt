-- Where the supply hangs on one device alone: it joins two sections, and no life begins or ends.
use Rattle.std.specs.Prelude.{◌≡◌, ℕ, ◌<◌, ◌≤◌, List}
use Rattle.ob_base.specs.declared.Pos.{Pos}
use Rattle.ob_net.specs.Network.{Network, as_of}
use Rattle.ob_sweep.specs.OneChange.{JoinsSections}

-- the device joins two sections, and from the second first up to end all devices are in service as they are at first
pub record IsPlain (net : Network) (device first end : ℕ) : Type 0 where
  pub ends : JoinsSections net device
  pub still : (s : ℕ) → first ≤ s → s < end → (ps : List Pos) → as_of net.devices s ps ≡ as_of net.devices first ps

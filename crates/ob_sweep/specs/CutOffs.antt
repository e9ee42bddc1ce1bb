-- What a device cuts off, as it is found while entries act one after another.
use Rattle.std.specs.Prelude.{◌≡◌, ◌<◌, ◌&&◌, ℕ, Bool, false, not, IfSome, List, [], Option, Some, None, length, map, slice_index_or, if◌then◌else◌}
use Rattle.std.specs.List.{All}
use Rattle.ob_base.specs.declared.Pos.{Pos}
use Rattle.ob_base.specs.declared.Pos.TheVariants.{Opened}
use Rattle.ob_net.specs.Apart.{device_at, is_at}
use Rattle.ob_net.specs.CutOff.{IsCutOff, IsJoined, is_within}
use Rattle.ob_net.specs.Network.{Network}
use Rattle.ob_net.specs.Nodes.{is_among}
use Rattle.ob_net.specs.Traces.{IsTracerOf}
use Rattle.ob_net.specs.Walk.{is_closed, is_supplied}
use Rattle.ob_net.specs.declared.tracer.CutEnd.{CutEnd}
use Rattle.ob_sheet.specs.declared.Entry.{Entry}
use Rattle.ob_sweep.specs.Acting.{moment_of, moved_all, pos_as_of, steps_from}
use Rattle.ob_sweep.specs.Moments.{last_cut}
use Rattle.ob_sweep.specs.Differences.{AllDuring, IsIndifferent}
use Rattle.ob_sweep.specs.Tracks.{goes_through}
use Rattle.ob_sweep.specs.declared.cut_off.CutOff.{CutOff}
use Rattle.ob_sweep.specs.declared.track.Track.{Track}

-- the nodes that were found are those which an end of the device is cut off with; where neither end is, the device's ends are joined
-- between those nodes
abbrev pub HasFound : Network → List Pos → ℕ → Option CutEnd → List ℕ → Type 0
HasFound net positions device (Some cut) found = IsCutOff net positions device cut.other cut.end (is_among found)
HasFound net positions device None found = IsJoined net positions device (is_among found)

-- the nodes that are supplied through the device alone
abbrev pub nodes_through : Option CutEnd → List ℕ → List ℕ
nodes_through (Some cut) found = found
nodes_through None found = []

-- the device's other end
abbrev pub other_end : Option CutEnd → ℕ
other_end (Some cut) = cut.other
other_end None = 0

-- an entry may alter what was found: one of its device's ends is cut off, or it opens a device between the nodes over which the ends are joined
abbrev pub may_alter : Network → ℕ → Option CutEnd → List ℕ → Entry → Bool
may_alter net t (Some cut) found e = is_at (is_among found) (device_at net.devices e.device)
may_alter net t None found e = not (is_closed (pos_as_of net t e.device e.pos)) && is_within (is_among found) (device_at net.devices e.device)

-- it is of a device of the network, of which each device has a position, and the nodes are those that were found then
pub record IsCut (net : Network) (c : CutOff) : Type 0 where
  pub of : IsTracerOf net c.tracer
  pub device : c.device < length net.devices
  pub positions : length c.positions.items ≡ length net.devices
  pub found : HasFound net c.positions.items c.device c.cut c.tracer.found
  pub are_nodes : IfSome c.cut (λ cut. (cut.end < length net.nodes) × (cut.other < length net.nodes))

-- a device took the entries of a second, and some nodes were collected: the device makes no difference to any other node, neither before
-- the entries nor after any of them, and all that are supplied through it alone before them or at last are among them
pub record AreCollected (net : Network) (was : CutOff) (entries : List Entry) (nodes : List ℕ) (now : CutOff) : Type 0 where
  pub of : IsCut net now
  pub device : now.device ≡ was.device
  pub second : now.second ≡ was.second
  pub positions : now.positions.items ≡ moved_all net was.second was.positions.items entries
  pub below : All (λ v. v < length net.nodes) nodes
  pub same : (v : ℕ) → is_among nodes v ≡ false
      → AllDuring (IsIndifferent (λ w ps. is_supplied net ps w) was.device v) (moment_of net was.second was.positions.items entries)
  pub first : (v : ℕ) → is_among nodes v ≡ false → is_among (nodes_through was.cut was.tracer.found) v ≡ false
  pub last : (v : ℕ) → is_among nodes v ≡ false → is_among (nodes_through now.cut now.tracer.found) v ≡ false

-- each listed node has this supply after the entries, and this last cutter among them
pub record AreLooked (net : Network) (t : ℕ) (positions : List Pos) (entries : List Entry) (nodes : List ℕ) (supplied : List Bool) (cutters : List (Option ℕ)) : Type 0 where
  pub supplied_now : supplied ≡ map (is_supplied net (moved_all net t positions entries)) nodes
  pub count : length cutters ≡ length nodes
  pub last : (k : ℕ) (d : Option ℕ) → k < length nodes
      → slice_index_or cutters k d ≡ last_cut (λ ps. is_supplied net ps (slice_index_or nodes k 0)) positions (steps_from net t positions entries)

-- what the nodes that are supplied through the device go by: its other end where it is closed, else no supply
abbrev pub source_through : Option CutEnd → Pos → Option ℕ
source_through (Some cut) pos = if is_closed pos then Some cut.other else None
source_through None pos = None

-- each node goes by its own old runs, or through the device
abbrev pub GoThrough : CutOff → List Track → Type 0
GoThrough c tracks =
    (v : ℕ) (d : Track) → v < length tracks → (slice_index_or tracks v d).source
    ≡ goes_through (is_among (nodes_through c.cut c.tracer.found)) (other_end c.cut) (slice_index_or c.positions.items c.device Opened) v

-- each node that isn't supplied through it goes by its own
abbrev pub GoOwnOutside : CutOff → List Track → Type 0
GoOwnOutside c tracks =
    (v : ℕ) (d : Track) → v < length tracks → is_among (nodes_through c.cut c.tracer.found) v ≡ false → (slice_index_or tracks v d).source ≡ Some v

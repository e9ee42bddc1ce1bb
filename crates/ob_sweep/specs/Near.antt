-- The nodes whose supply a change of the sheet can alter, and the entries that have a part in it.
use Rattle.std.specs.Prelude.{◌≡◌, ℕ, Bool, List, if◌then◌else◌}
use Rattle.std.specs.List.{All}
use Rattle.ob_base.specs.declared.Pos.{Pos}
use Rattle.ob_base.specs.declared.Pos.TheVariants.{Closed}
use Rattle.ob_net.specs.Apart.{HasEnds, IsApart, KeepsTo, device_at, is_at}
use Rattle.ob_net.specs.Network.{Network}
use Rattle.ob_net.specs.Reach.{is_reached}
use Rattle.ob_sheet.specs.declared.Entry.{Entry}
use Rattle.ob_sweep.specs.Splice.{splice}
use Rattle.ob_sweep.specs.Timeline.{runs_at}
use Rattle.ob_sweep.specs.declared.Run.{Run}

-- the entry's device has an end in the set
abbrev pub acts_at : Network → (ℕ → Bool) → Entry → Bool
acts_at net has e = is_at has (device_at net.devices e.device)

-- where the entry closes its device, that joins no node of the set to one outside but GRID
abbrev pub ClosesWithin : Network → (ℕ → Bool) → Entry → Type 0
ClosesWithin net has e = e.pos ≡ Closed → KeepsTo has (device_at net.devices e.device)

-- the set has the device's ends and not GRID, and no device that is closed at first, or that one of the steps closes,
-- joins a node of it to one outside but GRID
pub record AreNear (net : Network) (positions : List Pos) (acting : List Entry) (device : ℕ) (has : ℕ → Bool) : Type 0 where
  pub first : IsApart net positions has
  pub steps : All (ClosesWithin net has) acting
  pub ends : HasEnds has (device_at net.devices device)

-- the runs of a node after a change: where the node is in the set the old ones with those of the window in their place,
-- else the old ones
abbrev pub spliced_near : List Bool → ℕ → ℕ → List (List Run) → List (List Run) → ℕ → List Run
spliced_near near first end old window v = if is_reached near v then splice first end (runs_at old v) (runs_at window v) else runs_at old v

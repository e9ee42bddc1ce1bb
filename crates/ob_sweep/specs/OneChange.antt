-- A change of one device over a window of seconds: what is known of the histories of the sections before it and after it.
use Rattle.std.specs.Prelude.{◌≡◌, ℕ, suc, ◌<◌, ◌≤◌, List, Some, [], length, slice_index_or}
use Rattle.ob_base.specs.declared.Pos.{Pos}
use Rattle.ob_net.specs.Apart.{device_at}
use Rattle.ob_net.specs.Network.{Network}
use Rattle.ob_net.specs.Walk.{is_supplied}
use Rattle.ob_sheet.specs.declared.Entry.{Entry}
use Rattle.ob_sweep.specs.Acting.{moment_at}
use Rattle.ob_sweep.specs.Differences.{SaySame}
use Rattle.ob_sweep.specs.Runs.{History}
use Rattle.ob_sweep.specs.Timeline.{IsSection}
use Rattle.ob_sweep.specs.Tracks.{AreOldRuns, IsSecond}
use Rattle.ob_sweep.specs.declared.Run.{Run}
use Rattle.ob_sweep.specs.declared.difference.Differences.{Differences}
use Rattle.ob_sweep.specs.declared.track.Track.{Track}

-- both ends of the device are sections
abbrev pub JoinsSections : Network → ℕ → Type 0
JoinsSections net device = IsSection net (device_at net.devices device).a × IsSection net (device_at net.devices device).b

-- the histories of the sections before and after a change, over the seconds from lo up to hi. They are the same but from the second first
-- up to end, where they differ in the device alone. The positions are those just before first, and the entries are those of the window, after
-- the change; devices are in service as of the second first. The lists are the runs before the change.
pub record IsOneChange (net : Network) (device first end : ℕ) (positions : List Pos) (entries : List Entry) (lists : List (List Run)) : Type 0 where
  pub old : ℕ → History
  pub new : ℕ → History
  pub lo : ℕ
  pub hi : ℕ
  pub from : lo ≤ first
  pub some : first < end
  pub upto : end ≤ hi
  pub runs : AreOldRuns net old lo hi lists
  pub earlier : (v s : ℕ) → lo ≤ s → s < first → SaySame (new v) (old v) s
  pub within : (s : ℕ) → first ≤ s → s < end → IsSecond (λ v ps. is_supplied net ps v) device old new s (moment_at net first positions entries s)
  pub later : (v s : ℕ) → end ≤ s → s < hi → SaySame (new v) (old v) s
  pub seam : (v s : ℕ) → end < hi → suc s ≡ end → (new v).deenergized s ≡ (old v).deenergized s

-- before the entries of a window: nothing is found yet, and each node goes by its own old runs
pub record IsFirst (device first : ℕ) (positions : List Pos) (x : Differences) : Type 0 where
  pub device_is : x.cut.device ≡ device
  pub second_as_of : x.cut.second ≡ first
  pub positions_are : x.positions.items ≡ positions
  pub own : (v : ℕ) (d : Track) → v < length x.tracks.items
      → ((slice_index_or x.tracks.items v d).runs.items ≡ [])
      × ((slice_index_or x.tracks.items v d).reached ≡ first)
      × ((slice_index_or x.tracks.items v d).source ≡ Some v)

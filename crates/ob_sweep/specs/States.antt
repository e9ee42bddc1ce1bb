-- The outage intervals after a change of one device, as they are found second by second.
use Rattle.std.specs.Prelude.{◌≡◌, ◌≤◌, ◌+◌, ℕ, List, length}
use Rattle.ob_net.specs.Network.{Network}
use Rattle.ob_net.specs.Walk.{is_supplied}
use Rattle.ob_sheet.specs.declared.Entry.{Entry}
use Rattle.ob_sweep.specs.Acting.{moment_of, moved_all}
use Rattle.ob_sweep.specs.CutOffs.{GoOwnOutside, GoThrough, IsCut}
use Rattle.ob_sweep.specs.Runs.{History}
use Rattle.ob_sweep.specs.Tracks.{AreOldRuns, AreTracked, AreWithin, GoBySections, IsSecond}
use Rattle.ob_sweep.specs.declared.Run.{Run}
use Rattle.ob_sweep.specs.declared.difference.Differences.{Differences}

-- what the device cuts off is known for the positions, each node has a track, and each source is a node
pub record IsState (net : Network) (x : Differences) : Type 0 where
  pub of : IsCut net x.cut
  pub positions : x.positions.items ≡ x.cut.positions.items
  pub count : length x.tracks.items ≡ length net.nodes
  pub within : AreWithin (length net.nodes) x.tracks.items

-- the entries of a second were taken: the positions are those after them, and the new runs of each section are found by the old ones and
-- this second
pub record IsTaken (net : Network) (entries : List Entry) (second : ℕ) (lists : List (List Run)) (was now : Differences) : Type 0 where
  pub device : now.cut.device ≡ was.cut.device
  pub second_as_of : now.cut.second ≡ was.cut.second
  pub positions : now.positions.items ≡ moved_all net was.cut.second was.positions.items entries
  pub through : GoOwnOutside was.cut was.tracks.items → GoThrough now.cut now.tracks.items
  pub tracked : (g h : ℕ → History) (lo first hi : ℕ) → lo ≤ first → second ≤ hi → AreOldRuns net g lo hi lists → GoBySections net was.tracks.items
      → GoOwnOutside was.cut was.tracks.items → AreTracked net g h lo first second was.tracks.items
      → IsSecond (λ v ps. is_supplied net ps v) was.cut.device g h second (moment_of net was.cut.second was.positions.items entries)
      → AreTracked net g h lo first (second + 1) now.tracks.items

-- the same of the entries of any second, where each node goes by its own old runs or through the device
pub record IsGone (net : Network) (entries : List Entry) (second : ℕ) (lists : List (List Run)) (was now : Differences) : Type 0 where
  pub device : now.cut.device ≡ was.cut.device
  pub second_as_of : now.cut.second ≡ was.cut.second
  pub positions : now.positions.items ≡ moved_all net was.cut.second was.positions.items entries
  pub through : GoThrough was.cut was.tracks.items → GoThrough now.cut now.tracks.items
  pub tracked : (g h : ℕ → History) (lo first hi : ℕ) → lo ≤ first → second ≤ hi → AreOldRuns net g lo hi lists → GoBySections net was.tracks.items
      → GoThrough was.cut was.tracks.items → AreTracked net g h lo first second was.tracks.items
      → IsSecond (λ v ps. is_supplied net ps v) was.cut.device g h second (moment_of net was.cut.second was.positions.items entries)
      → AreTracked net g h lo first (second + 1) now.tracks.items

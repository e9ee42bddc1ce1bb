use Rattle.std.proofs.Common.{ℕ, List, map, subst}
use Rattle.ob_base.specs.declared.Pos.{Pos}
use Rattle.ob_net.specs.Network.{Network}
use Rattle.ob_sheet.specs.declared.Entry.{Entry}
use Rattle.ob_sweep.specs.OneChange.{IsOneChange}
use Rattle.ob_sweep.specs.Tracks.{AreTracked}
use Rattle.ob_sweep.specs.declared.Run.{Run}
use Rattle.ob_sweep.specs.declared.difference.Differences.{Differences}
use Rattle.ob_sweep.specs.declared.track.Track.{Track}
use Rattle.ob_sweep.proofs.difference.tracks_of.Goals as goal

-- the tracks hold after any such change
abbrev Tracks : ℕ → ℕ → List Entry → List (List Run) → List Track → Network → ℕ → List Pos → Type 0
Tracks first end entries lists tracks net device positions =
    (change : IsOneChange net device first end positions entries lists) → AreTracked net change.old change.new change.lo first end tracks

pub returns-clause-tracked : goal.returns-clause-tracked
returns-clause-tracked c =
    let net : Network = c.args.net.now.network in
    let lists : List (List Run) = map (λ l. l.items) c.args.old.now in
    let found : Differences = c.in_ok-found.found in
    let is_first = c.in_ok-found.ensures.first in
    let holds : Network → ℕ → List Pos → Type 0 = Tracks c.args.first c.args.end c.args.entries.now lists c.take_window.new.self.tracks.items in
    subst (λ (ps : List Pos). holds net c.args.device ps) is_first.positions_are
    (subst (λ (d : ℕ). holds net d found.positions.items) is_first.device_is
    (subst (λ (n : Network). holds n found.cut.device found.positions.items) c.in_ok-found.ensures.network c.in_ok-take_window.ensures.tracked))

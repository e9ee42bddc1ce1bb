-- Changes of a sheet that change no position.
use Rattle.std.specs.Prelude.{◌≡◌, ◌&&◌, ℕ, Bool, true, false, List, slice_get}
use Rattle.std.specs.Option.{option_map_or}
use Rattle.ob_base.specs.declared.Pos.{Pos}
use Rattle.ob_base.specs.declared.Pos.TheVariants.{Opened, Closed}
use Rattle.ob_net.specs.Network.{Network}
use Rattle.ob_sheet.specs.declared.Entry.{Entry}
use Rattle.ob_sheet.specs.Order.{before, upto}
use Rattle.ob_sheet.specs.Positions.{entered, positions}
use Rattle.ob_sweep.specs.SheetChanges.{with_change}
use Rattle.ob_sweep.specs.declared.change.SheetChange.{SheetChange}
use Rattle.ob_sweep.specs.declared.change.SheetChange.TheVariants.{Entered, Corrected, Withdrawn}

-- the two positions are the same
abbrev pub is_same : Pos → Pos → Bool
is_same Opened Opened = true
is_same Closed Closed = true
is_same Opened Closed = false
is_same Closed Opened = false

-- the entry has the position that its device has just before it: that of the device's last kept entry before it in
-- order, else the device's normal one
abbrev pub repeats : Network → List Entry → Entry → Bool
repeats net entries e = option_map_or (is_same e.pos) (slice_get (entered net (before entries e)) e.device) false

-- each entry that the change makes or removes repeats the position before it: a new one on the sheet as it is, a
-- withdrawn one on the sheet without it, and a corrected one there both as it was and as it will be
abbrev pub changes_no_position : Network → SheetChange → List Entry → Bool
changes_no_position net (Entered new) entries = repeats net entries new
changes_no_position net (Corrected old new) entries =
    repeats net (with_change (Withdrawn old) entries) old && repeats net (with_change (Withdrawn old) entries) new
changes_no_position net (Withdrawn old) entries = repeats net (with_change (Withdrawn old) entries) old

-- at every second each device has the same position under both sheets
abbrev pub KeepsPositions : Network → List Entry → List Entry → Type 0
KeepsPositions net old new = (s : ℕ) → positions net (upto new s) s ≡ positions net (upto old s) s

use Rattle.std.proofs.Common.{◌≤◌}
use Rattle.std.specs.List.{prefix_len}
use Rattle.ob_sheet.specs.ByDevice.{is_until_by_device}
use Rattle.ob_sheet.proofs.by_device.gaps_at.Given as goal

abbrev pub invariant-loop-device : goal.invariant-loop-device
invariant-loop-device l = l.from ≤ prefix_len (is_until_by_device l.entries l.device l.second l.«no») l.by_device

use Rattle.std.proofs.Common.{◌<◌, ◌≤◌, length}
use Rattle.std.specs.List.{All}
use Rattle.ob_sheet.specs.Sheet.{NameDevices}
use Rattle.ob_time.specs.Calendar.{first_second_of, end_second_of}
use Rattle.ob_sweep_tests.proofs.sheet.sheet_of.Given as goal

abbrev pub invariant-loop-line : goal.invariant-loop-line
invariant-loop-line l = record {
  can : (goal.iterator-loop-line).can_next l.line-iterator;
  ends : (goal.iterator-loop-line).is_finite l.line-iterator;
  devices : NameDevices (length l.net.network.devices) l.sheet.entries;
  all : All (λ e. (first_second_of l.period ≤ e.second) × (e.second < end_second_of l.period)) l.sheet.entries;
}

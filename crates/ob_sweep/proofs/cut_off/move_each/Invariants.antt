use Rattle.std.proofs.Common.{◌≡◌, take}
use Rattle.ob_sweep.specs.Acting.{moved_all}
use Rattle.ob_sweep.proofs.cut_off.move_each.Given as goal

abbrev pub invariant-loop-entry : goal.invariant-loop-entry
invariant-loop-entry l = l.positions ≡ moved_all l.net.network l.second l.fn.positions (take l.entry-index l.entries)

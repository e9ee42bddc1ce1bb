use Rattle.std.proofs.Common.{◌≡◌, length, take}
use Rattle.ob_sweep.specs.Acting.{moved_all}
use Rattle.ob_sweep.specs.CutOffs.{AreLooked}
use Rattle.ob_sweep.proofs.cut_off.CutOff.look.Given as goal

abbrev pub invariant-loop-entry : goal.invariant-loop-entry
invariant-loop-entry l = record {
  same : l.self ≡ l.fn.self;
  positions : l.positions ≡ moved_all l.net.network l.fn.self.second l.fn.positions (take l.entry-index l.entries);
  count : length l.next.items ≡ length l.nodes;
  looked : AreLooked l.net.network l.fn.self.second l.fn.positions (take l.entry-index l.entries) l.nodes l.supplied.items l.cutters.items;
}

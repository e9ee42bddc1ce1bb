use Rattle.std.proofs.Common.{◌≡◌, ◌≤◌, ◌+◌, take}
use Rattle.ob_sweep.specs.CutOffs.{AreCollected}
use Rattle.ob_sweep.proofs.cut_off.CutOff.take_all.Given as goal

abbrev pub invariant-loop-entry : goal.invariant-loop-entry
invariant-loop-entry l = record {
  collected : AreCollected l.fn.net.network l.fn.self (take l.entry-index l.entries) l.nodes.items l.self;
  network : l.net.network ≡ l.fn.net.network;
  node_room : l.net.node_room ≡ l.fn.net.node_room;
  device_room : l.net.device_room ≡ l.fn.net.device_room;
  searches : l.net.searches ≤ l.fn.net.searches + l.entry-index;
}

use Rattle.std.proofs.Common.{◌≡◌, ◌≤◌, ◌+◌, ◌-◌, length, map}
use Rattle.ob_sweep.specs.States.{IsState}
use Rattle.ob_sweep.proofs.WindowTaken.{IsGoneTo}
use Rattle.ob_sweep.proofs.difference.Differences.take_window.Given as goal

abbrev pub invariant-loop-place : goal.invariant-loop-place
invariant-loop-place l = record {
  within : l.place ≤ length l.entries;
  state : IsState l.fn.net.network l.self;
  gone : IsGoneTo l.fn.net.network l.fn.self.cut.device l.first l.end l.fn.self.positions.items l.entries (map (λ q. q.items) l.old) l.place l.self;
  network : l.net.network ≡ l.fn.net.network;
  node_room : l.net.node_room ≡ l.fn.net.node_room;
  device_room : l.net.device_room ≡ l.fn.net.device_room;
  searches : l.net.searches ≤ l.fn.net.searches + l.place;
}

abbrev pub decreases-loop-place : goal.decreases-loop-place
decreases-loop-place l = length l.entries - l.place

use Rattle.std.proofs.Common.{map}
use Rattle.ob_sweep.proofs.Recorded.{AreRecorded}
use Rattle.ob_sweep.proofs.step.record_changed.Given as goal

abbrev pub invariant-loop-node : goal.invariant-loop-node
invariant-loop-node l =
    AreRecorded (map (λ r. r.items) l.fn.lists) (map (λ r. r.items) l.lists) l.live l.changed l.second l.end l.number l.node-index

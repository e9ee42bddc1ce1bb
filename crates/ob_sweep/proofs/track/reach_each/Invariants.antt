use Rattle.std.proofs.Common.{map, take}
use Rattle.ob_sweep.proofs.Reaching.{AreReached}
use Rattle.ob_sweep.proofs.track.reach_each.Given as goal

abbrev pub invariant-loop-node : goal.invariant-loop-node
invariant-loop-node l = AreReached (map (λ r. r.items) l.old) l.second l.fn.tracks l.tracks (take l.node-index l.nodes)

use Rattle.std.proofs.Common.{take}
use Rattle.ob_sweep.proofs.Adding.{AreAddedSo}
use Rattle.ob_sweep.proofs.track.add_each.Given as goal

abbrev pub invariant-loop-place : goal.invariant-loop-place
invariant-loop-place l = AreAddedSo l.nodes (take l.place l.nodes) l.supplied l.cutters l.second l.fn.tracks l.tracks

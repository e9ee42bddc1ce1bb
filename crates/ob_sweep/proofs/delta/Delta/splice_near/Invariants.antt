use Rattle.std.proofs.Common.{map}
use Rattle.ob_sweep.specs.Near.{spliced_near}
use Rattle.ob_sweep.proofs.Touched.{AreTouched}
use Rattle.ob_sweep.proofs.delta.Delta.splice_near.Given as goal

abbrev pub invariant-loop-node : goal.invariant-loop-node
invariant-loop-node l =
    AreTouched l.net.network (map (λ r. r.items) l.old) (spliced_near l.near l.first l.end (map (λ r. r.items) l.old) (map (λ r. r.items) l.window)) l.node l.sections.items (map (λ r. r.items) l.lists.items)

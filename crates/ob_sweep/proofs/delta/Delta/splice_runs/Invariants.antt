use Rattle.std.proofs.Common.{map}
use Rattle.ob_sweep.specs.Splice.{splice}
use Rattle.ob_sweep.specs.Timeline.{runs_at}
use Rattle.ob_sweep.proofs.Touched.{AreTouched}
use Rattle.ob_sweep.proofs.delta.Delta.splice_runs.Given as goal

abbrev pub invariant-loop-node : goal.invariant-loop-node
invariant-loop-node l =
    AreTouched l.net.network (map (λ r. r.items) l.old) (λ v. splice l.first l.end (runs_at (map (λ r. r.items) l.old) v) (runs_at (map (λ r. r.items) l.window) v)) l.node l.sections.items (map (λ r. r.items) l.lists.items)

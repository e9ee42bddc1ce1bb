use Rattle.std.proofs.Common.{◌≡◌, map}
use Rattle.ob_sweep.proofs.one_device.into_lists.Given as goal

abbrev pub invariant-loop-track : goal.invariant-loop-track
invariant-loop-track l = map (λ r. r.items) l.lists.items ≡ map (λ t. t.runs.items) l.yielded

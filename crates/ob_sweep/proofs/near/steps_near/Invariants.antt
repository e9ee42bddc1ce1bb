use Rattle.std.proofs.Common.{◌≡◌, take}
use Rattle.std.specs.List.{filter}
use Rattle.ob_net.specs.Reach.{is_reached}
use Rattle.ob_sweep.specs.Near.{acts_at}
use Rattle.ob_sweep.proofs.near.steps_near.Given as goal

abbrev pub invariant-loop-step : goal.invariant-loop-step
invariant-loop-step l = l.kept.items ≡ filter (acts_at l.net.network (is_reached l.near)) (take l.step-index l.steps)

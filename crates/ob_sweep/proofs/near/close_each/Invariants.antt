use Rattle.ob_sweep.proofs.Closing.{Closing}
use Rattle.ob_sweep.proofs.near.close_each.Given as goal

abbrev pub invariant-loop-step : goal.invariant-loop-step
invariant-loop-step l = Closing l.fn.positions l.steps l.step-index l.positions

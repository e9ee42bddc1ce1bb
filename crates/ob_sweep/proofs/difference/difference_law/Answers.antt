use Rattle.ob_sweep.proofs.OneDevice.{difference_law, stretch_law}
use Rattle.ob_sweep.proofs.difference.difference_law.Goals as goal

pub returns-clause-seconds : goal.returns-clause-seconds
returns-clause-seconds c = difference_law

pub returns-clause-stretches : goal.returns-clause-stretches
returns-clause-stretches c = stretch_law

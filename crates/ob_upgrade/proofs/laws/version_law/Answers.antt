use Rattle.ob_upgrade.proofs.Bodies.{bodies_grow, old_bodies_differ}
use Rattle.ob_upgrade.proofs.Reached.{reached_by_both}
use Rattle.ob_upgrade.proofs.Whole.{same_figures, accepted_by_both, accepted_but_for_parts}
use Rattle.ob_upgrade.proofs.laws.version_law.Goals as goal

pub returns-clause-figures : goal.returns-clause-figures
returns-clause-figures c = same_figures

pub returns-clause-accepted : goal.returns-clause-accepted
returns-clause-accepted c = accepted_by_both

pub returns-clause-step : goal.returns-clause-step
returns-clause-step c = accepted_but_for_parts

pub returns-clause-reached : goal.returns-clause-reached
returns-clause-reached c = reached_by_both

pub returns-clause-bodies : goal.returns-clause-bodies
returns-clause-bodies c = bodies_grow

pub returns-clause-differ : goal.returns-clause-differ
returns-clause-differ c = old_bodies_differ c.bodies_law.ensures

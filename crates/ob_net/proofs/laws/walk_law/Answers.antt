use Rattle.ob_net.proofs.Connected.{connected_walk, supplied_walk}
use Rattle.ob_net.proofs.laws.walk_law.Goals as goal

pub returns-clause-supplied : goal.returns-clause-supplied
returns-clause-supplied c = supplied_walk

pub returns-clause-connected : goal.returns-clause-connected
returns-clause-connected c = connected_walk

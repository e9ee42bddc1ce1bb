use Rattle.ob_net.proofs.CutOff.{joined_supply, stays_joined}
use Rattle.ob_net.proofs.laws.joined_law.Goals as goal

pub returns-clause-supply : goal.returns-clause-supply
returns-clause-supply c = joined_supply

pub returns-clause-stays : goal.returns-clause-stays
returns-clause-stays c = stays_joined

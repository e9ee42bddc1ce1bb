use Rattle.ob_net.proofs.CutOff.{cut_off_supply, stays_cut_off}
use Rattle.ob_net.proofs.laws.cut_off_law.Goals as goal

pub returns-clause-supply : goal.returns-clause-supply
returns-clause-supply c = cut_off_supply

pub returns-clause-stays : goal.returns-clause-stays
returns-clause-stays c = stays_cut_off

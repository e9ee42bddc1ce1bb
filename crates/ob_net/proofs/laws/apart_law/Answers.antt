use Rattle.ob_net.proofs.Apart.{apart_supplied}
use Rattle.ob_net.proofs.laws.apart_law.Goals as goal

pub returns : goal.returns
returns c = apart_supplied

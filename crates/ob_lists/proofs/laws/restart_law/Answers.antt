use Rattle.ob_lists.proofs.Restarting.{restart_law}
use Rattle.ob_lists.proofs.laws.restart_law.Goals as goal

pub returns : goal.returns
returns g c = restart_law g.row.T.Denot g.row.U.Denot g.S.Store g.R.Store g.met.R.Store.settled c.upgrade_law.ensures.reached

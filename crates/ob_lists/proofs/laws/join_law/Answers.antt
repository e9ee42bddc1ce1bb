use Rattle.ob_lists.proofs.Restarting.{join_law}
use Rattle.ob_lists.proofs.laws.join_law.Goals as goal

pub returns : goal.returns
returns g c = join_law g.row.T.Denot g.row.U.Denot g.row.V.Denot g.S.Store g.M.Store g.R.Store

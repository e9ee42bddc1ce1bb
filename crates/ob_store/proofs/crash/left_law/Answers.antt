use Rattle.ob_store.proofs.Crashing.{left_law}
use Rattle.ob_store.proofs.crash.left_law.Goals as goal

pub returns : goal.returns
returns g c = left_law g.R.Store c.naming_law.ensures.few c.upgrade_law.ensures.reached

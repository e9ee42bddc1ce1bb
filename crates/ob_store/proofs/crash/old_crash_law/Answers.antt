use Rattle.ob_store.proofs.OldCrashing.{old_crash_law}
use Rattle.ob_store.proofs.crash.old_crash_law.Goals as goal

pub returns : goal.returns
returns g c = old_crash_law g.S.Store g.R.Store c.naming_law.ensures.few c.upgrade_law.ensures.reached

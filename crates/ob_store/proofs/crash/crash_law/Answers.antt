use Rattle.ob_store.proofs.Crashing.{crash_law}
use Rattle.ob_store.proofs.crash.crash_law.Goals as goal

pub returns : goal.returns
returns g c = crash_law g.S.Store g.R.Store c.naming_law.ensures.few (λ conn live trees may. g.met.R.Store.settled conn.store trees live may)

use Rattle.ob_store.proofs.Crashing.{load_law}
use Rattle.ob_store.proofs.crash.load_law.Goals as goal

pub returns : goal.returns
returns g c = load_law g.S.Store c.naming_law.ensures.few

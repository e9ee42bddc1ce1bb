use Rattle.ob_store.proofs.Few.{few_moves}
use Rattle.ob_store.proofs.moving.few_moves_law.Goals as goal

pub returns : goal.returns
returns c b reached = few_moves c.next_law.ensures.period c.move_laws.ensures.keys c.naming_law.ensures.few b reached

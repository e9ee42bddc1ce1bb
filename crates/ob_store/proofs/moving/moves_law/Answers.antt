use Rattle.ob_store.proofs.Handing.{rows_of_all}
use Rattle.ob_store.proofs.moving.moves_law.Goals as goal

pub returns : goal.returns
returns c = rows_of_all

use Rattle.ob_sweep.proofs.KeptOnly.{same_positions_law}
use Rattle.ob_sweep.proofs.same_positions.same_positions_law.Goals as goal

pub returns : goal.returns
returns c = same_positions_law

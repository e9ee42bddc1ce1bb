use Rattle.ob_selections.proofs.Whole.{whole_is}
use Rattle.ob_selections.proofs.laws.selections_law.Goals as goal

pub returns : goal.returns
returns c = record { whole = whole_is }

use Rattle.ob_csv.proofs.WholeLaws.{begin_with}
use Rattle.ob_csv.proofs.whole.whole_rows_law.Goals as goal

pub returns : goal.returns
returns c = begin_with

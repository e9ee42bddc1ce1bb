use Rattle.ob_import.proofs.ImportLaws.{one_import, import_again}
use Rattle.ob_import.proofs.text.import_law.Goals as goal

pub returns-clause-one : goal.returns-clause-one
returns-clause-one c = one_import c.rows_law.ensures

pub returns-clause-again : goal.returns-clause-again
returns-clause-again c = import_again

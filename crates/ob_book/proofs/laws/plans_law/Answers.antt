use Rattle.ob_book.proofs.Acted.{plans_are_acted}
use Rattle.ob_book.proofs.laws.plans_law.Goals as goal

pub returns : goal.returns
returns c = record { acted = plans_are_acted }

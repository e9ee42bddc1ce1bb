use Rattle.ob_book.proofs.ActLaws.{period_stays}
use Rattle.ob_book.proofs.laws.next_law.Goals as goal

pub returns : goal.returns
returns c = record { period = period_stays }

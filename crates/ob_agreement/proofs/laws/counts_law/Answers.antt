use Rattle.ob_agreement.proofs.Counting.{book_is_counted, count_is_of_book}
use Rattle.ob_agreement.proofs.laws.counts_law.Goals as goal

pub returns-clause-counts : goal.returns-clause-counts
returns-clause-counts c = count_is_of_book

pub returns-clause-counted : goal.returns-clause-counted
returns-clause-counted c = book_is_counted

use Rattle.ob_book.proofs.Searching.{searches_add_up, searches_of_both}
use Rattle.ob_book.proofs.laws.searches_law.Goals as goal

pub returns : goal.returns
returns c = record { both = searches_of_both; add_up = searches_add_up }

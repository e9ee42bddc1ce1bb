use Rattle.ob_book.specs.Searches.{by_window}
use Rattle.ob_book.proofs.Searching.{same_of_command, same_of_replay}
use Rattle.ob_book.proofs.laws.windows_law.Goals as goal

pub returns : goal.returns
returns c = record { command = same_of_command _ by_window c.windowed_law.ensures.bound; replay = same_of_replay _ by_window c.windowed_law.ensures.bound }

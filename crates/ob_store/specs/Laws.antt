-- What the commands of the books of a version lead to, and what their rows tell.
use Rattle.std.specs.Prelude.{◌≡◌, ◌≤◌, List, length, Some}
use Rattle.ob_time.specs.Calendar.{Calendar, day_count}
use Rattle.ob_time.specs.Dates.{day_text}
use Rattle.ob_time.specs.Period.{IsPeriodText}
use Rattle.ob_command.specs.declared.command.Command.{Command}
use Rattle.ob_state.specs.State.{BookState, empty_book}
use Rattle.ob_book.specs.Acts.{ActState, Referenced}
use Rattle.ob_sql_rows.specs.declared.table.Table.TheVariants.{Moved}
use Rattle.ob_sql_rows.specs.declared.version.Version.{Version}
use Rattle.ob_record.specs.Tables.{moved_rows}
use Rattle.ob_sql_read.specs.Distinct.{AreDistinct}
use Rattle.ob_sql_read.specs.Moves.{commands_of}
use Rattle.ob_sql_read.specs.Ordered.{RowsHaveOneOrder}
use Rattle.ob_sql_read.specs.Versioned.{next_all_in}
use Rattle.ob_store.specs.Books.{IsReachedIn, tables_in}

pub record Laws (version : Version) : Type 0 where
  -- rows are those of one list of commands alone
  pub ordered : RowsHaveOneOrder version
  pub few : (b : ActState) → IsReachedIn version b → length b.accepted ≤ 1_000_000
  -- the commands of a book, each accepted in its turn under a reference of its own, lead to it from a new one
  pub accepted : (b : ActState) → IsReachedIn version b
      → AreDistinct b.accepted × (next_all_in version (empty_book b.book.period) (commands_of b.accepted) ≡ Some b.book)
  -- and what they lead to so is a book
  pub reached : (p : Calendar) (list : List Referenced) (s : BookState) → s.period ≡ p
      → IsPeriodText (day_text p.first_day) (day_count p) p.zone p → AreDistinct list
      → next_all_in version (empty_book p) (commands_of list) ≡ Some s
      → IsReachedIn version (record { book = s; accepted = list })
  -- what they moved are the rows of its table
  pub moved : (b : ActState) → IsReachedIn version b
      → moved_rows (empty_book b.book.period) 1 b.accepted ≡ tables_in version b Moved
  pub stays : (p : Calendar) (list : List Command) (s : BookState) → next_all_in version (empty_book p) list ≡ Some s
      → s.period ≡ p

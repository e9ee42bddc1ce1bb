-- A book that is led along the commands which the tables name.
use Rattle.std.specs.Prelude.{◌≡◌, ◌↔◌, ◌⊎◌, Bool, List, Some, None, IsTrue}
use Rattle.sqlite.specs.Tree.{Trees}
use Rattle.ob_net.specs.Network.{Network}
use Rattle.ob_time.specs.Calendar.{Calendar, day_count}
use Rattle.ob_time.specs.Dates.{day_text}
use Rattle.ob_time.specs.Period.{IsPeriodText}
use Rattle.ob_state.specs.State.{BookState, empty_book}
use Rattle.ob_state.specs.Next.{next_all}
use Rattle.ob_book.specs.Acts.{ActState}
use Rattle.ob_sql_rows.specs.Rows.{Columns}
use Rattle.ob_sql_rows.specs.declared.table.Table.TheVariants.{Command, Moved}
use Rattle.ob_sql_rows.specs.declared.version.Version.{Version}
use Rattle.ob_sql_rows.specs.declared.version.Version.TheVariants.{Two}
use Rattle.ob_record.specs.Tables.{Shows}
use Rattle.ob_sql_read.specs.declared.heading.Heading.{Heading}
use Rattle.ob_sql_read.specs.Listing.{filed_of}
use Rattle.ob_sql_read.specs.Moves.{HasMoved, commands_of}
use Rattle.ob_sql_read.specs.Versioned.{next_all_in}
use Rattle.ob_store.specs.declared.named.Named.{Named}
use Rattle.ob_store.specs.Books.{tables_in}
use Rattle.ob_store.specs.Creating.{HasNoPeriodText}
use Rattle.ob_store.specs.Finding.{IsBookIn}

-- the heading names no period
abbrev pub HasNoPeriodOf : Heading → Type 0
HasNoPeriodOf h = HasNoPeriodText h.first_day.items h.days h.zone.items

-- a new book of the period that the heading names
pub record IsNewBook (h : Heading) (b : BookState) : Type 0 where
  pub new : b ≡ empty_book b.period
  pub period : IsPeriodText (day_text b.period.first_day) (day_count b.period) b.period.zone b.period
  -- its texts are those of the heading
  pub first_day : h.first_day.items ≡ day_text b.period.first_day
  pub days : h.days ≡ day_count b.period
  pub zone : h.zone.items ≡ b.period.zone
  -- it names no other
  pub only : (p : Calendar) → IsPeriodText h.first_day.items h.days h.zone.items p → p ≡ b.period

-- a new book of the heading's period, with the layout of its network
pub record IsBegun (it : Named) (b : BookState) (layout : Network) : Type 0 where
  pub new : IsNewBook it.heading b
  pub laid_out : layout ≡ b.network

-- the commands, each accepted by a version in its turn, lead a new book of the heading's period to this one
pub record IsLedBy (version : Version) (it : Named) (b : BookState) : Type 0 where
  pub first : BookState
  pub new : IsNewBook it.heading first
  pub led : next_all_in version first (commands_of (filed_of it.commands.items)) ≡ Some b

-- the heading names no period, or a command isn't accepted in its turn
abbrev pub LeadsNowhere : Named → Type 0
LeadsNowhere it =
    HasNoPeriodOf it.heading
    ⊎ ((first : BookState) × IsNewBook it.heading first × (next_all first (commands_of (filed_of it.commands.items)) ≡ None))

-- whether the table of moved amounts has the rows of what the commands move, each accepted by a version in its turn
abbrev pub MovesAre : Version → Named → Trees → Bool → Type 0
MovesAre version it trees moved =
    (first : BookState) × IsNewBook it.heading first
    × ((rows : List Columns) → Shows trees Moved rows → IsTrue moved ↔ HasMoved version rows first (filed_of it.commands.items))

-- the state is that of the book of a version, and of no other, whose period and commands the trees name
pub record IsLedIn (version : Version) (trees : Trees) (s : BookState) (counted moved : Bool) : Type 0 where
  pub book : ActState
  pub is_book : IsBookIn version trees book
  pub only : (other : ActState) → IsBookIn version trees other → other ≡ book
  pub state : s ≡ book.book
  -- whether the table of commands is the book's
  pub counts : IsTrue counted ↔ Shows trees Command (tables_in version book Command)
  -- whether the table of moved amounts is the book's
  pub moves : IsTrue moved ↔ Shows trees Moved (tables_in version book Moved)

-- the same of the version that is written
abbrev pub IsLed : Trees → BookState → Bool → Bool → Type 0
IsLed trees s counted moved = IsLedIn Two trees s counted moved

-- What the tables of the heading and of the commands are read as.
use Rattle.std.specs.Prelude.{◌≡◌, ◌≢◌, ◌↔◌, ℕ, ℤ, ◌<◌, ◌≤◌, ◌^◌, ⊤, IsTrue, List, [], ◌∷◌, ◌++◌, length, Option, Some, None}
use Rattle.std.specs.List.{AllByRecursion}
use Rattle.std.specs.List.Sorted.{IsPermutation}
use Rattle.sqlite.specs.Order.{Row}
use Rattle.sqlite.specs.Held.{Held, state}
use Rattle.sqlite.specs.Given.{HasGiven}
use Rattle.sqlite_trees.specs.declared.store.Store.{Ghosts}
use Rattle.sqlite.specs.declared.types.Value.{Value}
use Rattle.sqlite.specs.declared.types.Value.TheVariants.{Text}
use Rattle.sqlite.specs.declared.error.Error.{Error}
use Rattle.sqlite.specs.declared.error.Error.TheVariants.{SqlInputError}
use Rattle.ob_book.specs.Acts.{Referenced}
use Rattle.ob_sql_rows.specs.Rows.{Columns, command_row, number}
use Rattle.ob_sql_rows.specs.declared.version.Version.{Version}
use Rattle.ob_sql_rows.specs.declared.table.Table.TheVariants.{Command}
use Rattle.ob_record.specs.Tables.{numbered}
use Rattle.ob_state.specs.declared.TheConstants.{MOST_COMMANDS}
use Rattle.ob_sql_read.specs.declared.filed.Filed.{Filed}
use Rattle.ob_sql_read.specs.declared.heading.Heading.{Heading}
use Rattle.ob_sql_read.specs.declared.commands.Commands.{Commands}
use Rattle.ob_sql_read.specs.declared.commands.Next.{Next}
use Rattle.ob_sql_read.specs.declared.commands.Next.TheVariants.{Higher, Other, End}
use Rattle.ob_sql_read.specs.Apart.{IsAbove}
pub use Rattle.ob_sql_read.specs.Faults.{HasNoMeaning, HasTrouble, IsMissed, IsReadFault, bad_book}
use Rattle.ob_sql_read.specs.Listing.{Listing, Lists, referenced, filed_of}
use Rattle.ob_sql_read.specs.Ordered.{AreRowsOf, row_under}
use Rattle.ob_sql_read.specs.Parts.{listing_of}
use Rattle.ob_sql_read.specs.Versioned.{IsReferencedIn, body_in}

-- the version has the command, and the reference is one
abbrev pub IsFiled : Version → Filed → Type 0
IsFiled version f = IsReferencedIn version (referenced f)

-- a text wasn't understood
abbrev pub IsInputError : Error → Type 0
IsInputError (SqlInputError fault) = ⊤
IsInputError _ = ⊥

-- the row of a heading under any number and of any version
abbrev pub heading_row : Value → Value → List ℕ → ℕ → List ℕ → Columns
heading_row id version first_day days zone = id ∷ version ∷ Text first_day ∷ number days ∷ Text zone ∷ []

-- the row is that of a heading, or of none
abbrev pub IsHeadingRow : Option Heading → Columns → Type 0
IsHeadingRow (Some h) row =
    (id : Value) × (version : Value) × (row ≡ heading_row id version h.first_day.items h.days h.zone.items)
IsHeadingRow None row =
    (id version : Value) (first_day : List ℕ) (days : ℕ) (zone : List ℕ) → days < 2 ^ 16
    → row ≢ heading_row id version first_day days zone

-- there is one row, and it is that of the heading; or there is no such row, or others beside it
abbrev pub IsHeading : Option Heading → List Columns → Type 0
IsHeading (Some h) rows =
    (id : Value) × (version : Value) × (rows ≡ heading_row id version h.first_day.items h.days h.zone.items ∷ [])
IsHeading None rows =
    (id version : Value) (first_day : List ℕ) (days : ℕ) (zone : List ℕ) → days < 2 ^ 16
    → rows ≢ heading_row id version first_day days zone ∷ []

-- the row that a command has in a version under its number
abbrev pub row_of_command_in : Version → ℕ → Referenced → Columns
row_of_command_in version id a = command_row id a.reference (body_in version a.command)

-- the rows that commands have in a version, numbered from 1
abbrev pub command_rows : Version → List Referenced → List Columns
command_rows version list = numbered (row_of_command_in version) 1 list

-- in the order of their numbers the rows are those of the commands in a version, and it is told whether they are numbered
-- from 1; or the rows are those of no commands that a book of the version could have
abbrev pub IsCommands : Version → Option Commands → List Columns → Type 0
IsCommands version (Some c) rows =
    AreRowsOf version (filed_of c.commands.items) rows
    × (IsTrue c.counted ↔ IsPermutation rows (command_rows version (filed_of c.commands.items)))
IsCommands version None rows =
    (list : List Referenced) → length list ≤ MOST_COMMANDS → AllByRecursion (IsReferencedIn version) list
    → ¬ (AreRowsOf version list rows)

-- the commands are as many as a book takes, under references, and the version has them
abbrev pub AreFiled : Version → Option Commands → Type 0
AreFiled version (Some c) =
    (length c.commands.items ≤ MOST_COMMANDS) × AllByRecursion (IsReferencedIn version) (filed_of c.commands.items)
AreFiled version None = ⊤

-- the query of the commands
abbrev pub command_listing : Listing
command_listing = listing_of Command

-- what stands next is a version's command under a reference, with a number above the last
abbrev pub IsNext : Version → Option ℤ → Next → Type 0
IsNext version last (Higher n f) = IsAbove last n × IsFiled version f
IsNext version last Other = ⊤
IsNext version last End = ⊤

-- what stands behind the rows that were given: the version's command with this number, a row of none whose number is above
-- the last, or the end
abbrev pub Stands : {S : Type 0} (g : Ghosts S) → Version → Option ℤ → Next → Held S → List Row → Type 0
Stands g version last (Higher n f) new given =
    HasGiven g command_listing.text [] new (given ++ row_under version (n, referenced f) ∷ [])
Stands g version last Other new given =
    (row : Row) × (rest : List Row) × Lists command_listing (state g new).now (given ++ (row ∷ rest))
    × ((n : ℤ) (f : Filed) → IsAbove last n → IsFiled version f → row ≢ row_under version (n, referenced f))
Stands g version last End new given = Lists command_listing (state g new).now given

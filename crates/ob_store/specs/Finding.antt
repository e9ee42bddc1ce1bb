-- What the tables of a database say of a book.
use Rattle.std.specs.Prelude.{◌≡◌, ◌↔◌, ◌<◌, ◌≤◌, ℕ, List, [], ◌∷◌, length, map, false, IsTrue, Option, Some, None, Result, IfOk, IfErr, OnOk}
use Rattle.std.specs.List.{AllByRecursion}
use Rattle.sqlite_trees.specs.declared.store.Store.{Ghosts}
use Rattle.sqlite.specs.Tree.{Trees}
use Rattle.sqlite.specs.Held.{Held, state}
use Rattle.sqlite.specs.State.{HasCleanDisk, IsUnchanged, Survives}
use Rattle.ob_base.specs.declared.stop.Stop.{Stop}
use Rattle.sqlite_value.specs.declared.value.Value.{Value}
use Rattle.ob_book.specs.Acts.{ActState, Referenced}
use Rattle.ob_sql_rows.specs.declared.table.Table.{Table}
use Rattle.ob_sql_rows.specs.declared.table.Table.TheVariants.{Meta, Cause, Node, Device, Life, Customer, Entry, Mark, Command, Moved, Posting}
use Rattle.ob_sql_rows.specs.declared.version.Version.{Version}
use Rattle.ob_sql_rows.specs.declared.version.Version.TheVariants.{Two}
use Rattle.ob_sql_rows.specs.Versions.{schema_of}
use Rattle.ob_record.specs.Tables.{Shows, tables_of}
use Rattle.ob_sql_read.specs.Ordered.{AreRowsOf}
use Rattle.ob_sql_read.specs.Reading.{IsReadFault, bad_book, command_rows, heading_row}
use Rattle.ob_sql_read.specs.Versioned.{IsReferencedIn}
use Rattle.ob_sql_read.specs.Listing.{filed_of}
use Rattle.ob_sql_rows.specs.Rows.{Tables, shown, tree_of}
use Rattle.ob_time.specs.Calendar.{Calendar, day_count}
use Rattle.ob_time.specs.Dates.{day_text}
use Rattle.ob_sql_write.specs.Keeps.{KeepsIn}
use Rattle.ob_store.specs.Books.{IsReachedIn}
use Rattle.ob_store.specs.Keeping.{HasStoreCause, KeepsBook}
use Rattle.ob_store.specs.declared.named.Named.{Named}

-- the place of a table among those that are compared
abbrev pub place_of : Table → ℕ
place_of Meta = 0
place_of Cause = 1
place_of Node = 2
place_of Device = 3
place_of Life = 4
place_of Customer = 5
place_of Entry = 6
place_of Mark = 7
place_of Command = 8
place_of Moved = 9
place_of Posting = 10

-- `meta` holds one row, with these texts of a heading, whatever its number and its version
abbrev pub HasHeadingOf : Trees → List ℕ → ℕ → List ℕ → Type 0
HasHeadingOf trees first_day days zone =
    (id : Value) × (version : Value) × Shows trees Meta (heading_row id version first_day days zone ∷ [])

-- the heading in these trees names the period
abbrev pub NamesPeriod : Trees → Calendar → Type 0
NamesPeriod trees p = HasHeadingOf trees (day_text p.first_day) (day_count p) p.zone

-- the rows of `cmd`, in the order of their numbers, whatever these are, are those of a version's commands
abbrev pub NamesCommands : Version → Trees → List Referenced → Type 0
NamesCommands version trees list = AreRowsOf version list (map (shown Command) (trees (tree_of Command)))

-- the period and the commands that these trees name are those of the book of a version, which its commands lead to
pub record IsBookIn (version : Version) (trees : Trees) (b : ActState) : Type 0 where
  pub reached : IsReachedIn version b
  -- what references and commands always are, and how many a book takes
  pub valid : AllByRecursion (IsReferencedIn version) b.accepted
  pub few : length b.accepted ≤ 1_000_000
  pub period : NamesPeriod trees b.book.period
  pub commands : NamesCommands version trees b.accepted

-- they are those of no book of the version
abbrev pub HasNoBookIn : Version → Trees → Type 0
HasNoBookIn version trees = (b : ActState) → ¬ (IsBookIn version trees b)

-- the same of the version that is written
abbrev pub IsBookOf : Trees → ActState → Type 0
IsBookOf trees b = IsBookIn Two trees b

abbrev pub HasNoBook : Trees → Type 0
HasNoBook trees = HasNoBookIn Two trees

-- these are the heading and the commands of a version in the trees, and it is told whether the commands are numbered from 1
pub record IsNamed (version : Version) (trees : Trees) (it : Named) : Type 0 where
  pub heading : HasHeadingOf trees it.heading.first_day.items it.heading.days it.heading.zone.items
  pub commands : NamesCommands version trees (filed_of it.commands.items)
  pub counts : IsTrue it.counted ↔ Shows trees Command (command_rows version (filed_of it.commands.items))
  pub valid : AllByRecursion (IsReferencedIn version) (filed_of it.commands.items)

-- each table has the rows of the book; or this is the first that hasn't
abbrev pub Differs : Trees → ActState → Option Table → Type 0
Differs trees b None = (table : Table) → Shows trees table (tables_of b table)
Differs trees b (Some table) =
    (¬ (Shows trees table (tables_of b table)))
    × ((other : Table) → place_of other < place_of table → Shows trees other (tables_of b other))

-- the trees hold the eleven tables of the book
abbrev pub HasBook : Trees → ActState → Type 0
HasBook trees b = IsBookOf trees b × Differs trees b None

-- the period and the commands that they name are those of no other book
abbrev pub AreOfNoOther : Trees → ActState → Type 0
AreOfNoOther trees b = (other : ActState) → IsBookOf trees other → other ≡ b

module _ {S : Type 0} (g : Ghosts S) where
  -- nothing was written: a book that the store keeps it keeps on, and a crash leaves no more than before
  pub record OnlyReads (old new : Held S) : Type 0 where
    pub kept : (b : ActState) → KeepsBook (state g old) b → KeepsBook (state g new) b
    pub left : (trees : Trees) → (state g new).may_leave trees → (state g old).may_leave trees

  -- and what it shows is what it showed
  abbrev pub ShowsTheSame : Held S → Held S → Type 0
  ShowsTheSame old new = OnlyReads old new × ((state g new).now ≡ (state g old).now)

module _ {S : Type 0} (g : Ghosts S) (version : Version) where
  -- the tables of a version were read, and nothing was written: what was found is so of them, and where they are told to be
  -- no book's they aren't
  pub record Finds {X : Type 0} (Good : Trees → X → Type 0) (Bad : Trees → Type 0) (old new : Held S) (result : Result X Stop) : Type 0 where
    pub mode : old.in_transaction ≡ false → new.in_transaction ≡ false
    pub clean : HasCleanDisk (state g new) → HasCleanDisk (state g old)
    -- a crash leaves no more than before, whatever the schema
    pub survives : Survives (state g old) (state g new) (λ _. ⊥)
    -- and what the store keeps it keeps on
    pub kept : (t : Tables) → KeepsIn version (state g old) t → KeepsIn version (state g new) t
    pub faults : IfErr result IsReadFault
    -- over the tables of the version the store is told to have failed only where it has, or the file is broken
    pub cause : HasCleanDisk (state g new) → old.schema ≡ schema_of version → HasStoreCause (state g old) (state g new) result
    pub same : HasCleanDisk (state g new) → OnOk result (old.schema ≡ schema_of version → IsUnchanged (state g old) (state g new))
    pub same_bad : HasCleanDisk (state g new)
        → IfErr result (λ stop. stop ≡ bad_book → old.schema ≡ schema_of version → (state g new).now ≡ (state g old).now)
    pub good : HasCleanDisk (state g new) → IfOk result (λ x. old.schema ≡ schema_of version → Good (state g old).now.trees x)
    pub bad : HasCleanDisk (state g new)
        → IfErr result (λ stop. stop ≡ bad_book → old.schema ≡ schema_of version → Bad (state g old).now.trees)

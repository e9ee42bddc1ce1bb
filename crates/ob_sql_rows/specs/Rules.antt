-- What the rules of the tables let in: keys and names that are free, rows that a row refers to, texts that fit where no type bounds them.
use Rattle.std.specs.Prelude.{◌≡◌, ◌≢◌, ◌≤◌, ◌<◌, ◌^◌, ◌+◌, ◌&&◌, ℕ, ℤ, pos, Bool, true, false, List, length, map, ⊤}
use Rattle.std.specs.List.{AllByRecursion, list_any, range_with_len}
use Rattle.sqlite.specs.Order.{Row}
use Rattle.sqlite.specs.Tree.{Trees, rowid}
use Rattle.sqlite.specs.declared.types.Value.{Value}
use Rattle.sqlite.specs.declared.types.Value.TheVariants.{Text, Blob}
use Rattle.ob_sql_rows.specs.Rows.{Columns, Tables, number, has_number, is_key, is_posting, is_reference}
use Rattle.ob_sql_rows.specs.declared.table.Table.{Table}
use Rattle.ob_sql_rows.specs.declared.table.Table.TheVariants.{Meta, Cause, Node, Device, Life, Customer, Entry, Mark, Command, Moved, Posting}

-- a row of the table has this key
abbrev pub HasKey : Table → ℕ → Tables → Type 0
HasKey table id tables = list_any (is_key id) (tables table) ≡ true

-- none has
abbrev pub LacksKey : Table → ℕ → Tables → Type 0
LacksKey table id tables = list_any (is_key id) (tables table) ≡ false

-- no row of the table has this name, which stands next to the key
abbrev pub LacksName : Table → List ℕ → Tables → Type 0
LacksName table name tables = list_any (is_reference name) (tables table) ≡ false

-- far shorter than a row may be
abbrev pub IsShort : List ℕ → Type 0
IsShort text = length text ≤ 10 ^ 8

-- a number, or such a text
abbrev pub IsShortValue : Value → Type 0
IsShortValue (Text text) = IsShort text
IsShortValue (Blob bytes) = IsShort bytes
IsShortValue _ = ⊤

-- so is each value of the rows of this key
abbrev pub HasShort : Table → ℕ → Tables → Type 0
HasShort table id tables = AllByRecursion (λ row. is_key id row ≡ true → AllByRecursion IsShortValue row) (tables table)

-- the table has fewer rows than there are row numbers
abbrev pub HasRoom : Table → Tables → Type 0
HasRoom table tables = length (tables table) + 1 < 2 ^ 63

-- the row is that of this command, dimension and key
abbrev pub is_moved : ℕ → ℕ → ℕ → Columns → Bool
is_moved id dim key row = has_number 0 id row && (has_number 1 dim row && (has_number 2 key row && true))

-- ---- what is let in, of a row that is added

abbrev pub LetsMeta : List ℕ → List ℕ → Tables → Type 0
LetsMeta first_day zone tables = LacksKey Meta 1 tables × IsShort first_day × IsShort zone

abbrev pub LetsCause : ℕ → List ℕ → Tables → Type 0
LetsCause code name tables = LacksKey Cause code tables × LacksName Cause name tables

abbrev pub LetsNode : ℕ → List ℕ → Tables → Type 0
LetsNode id name tables = LacksKey Node id tables × LacksName Node name tables

abbrev pub LetsDevice : ℕ → List ℕ → ℕ → ℕ → Tables → Type 0
LetsDevice id name a b tables =
    LacksKey Device id tables × LacksName Device name tables × HasKey Node a tables × HasKey Node b tables

abbrev pub LetsLife : ℕ → Tables → Type 0
LetsLife device tables = LacksKey Life device tables × HasKey Device device tables

abbrev pub LetsCustomer : ℕ → ℕ → Tables → Type 0
LetsCustomer id section tables = LacksKey Customer id tables × HasKey Node section tables

abbrev pub LetsEntry : ℕ → ℕ → ℕ → Tables → Type 0
LetsEntry id device cause tables = LacksKey Entry id tables × HasKey Device device tables × HasKey Cause cause tables

abbrev pub LetsMark : ℕ → Tables → Type 0
LetsMark day tables = LacksKey Mark day tables

abbrev pub LetsCommand : ℕ → List ℕ → List ℕ → Tables → Type 0
LetsCommand id reference body tables =
    LacksKey Command id tables × LacksName Command reference tables × IsShort reference × IsShort body

abbrev pub LetsMoved : ℕ → ℕ → ℕ → ℤ → Tables → Type 0
LetsMoved id dim key delta tables =
    HasKey Command id tables × (list_any (is_moved id dim key) (tables Moved) ≡ false) × (delta ≢ pos 0)
    × HasRoom Moved tables

abbrev pub LetsPosting : ℕ → ℕ → Tables → Type 0
LetsPosting dim key tables = (list_any (is_posting dim key) (tables Posting) ≡ false) × HasRoom Posting tables

-- ---- of a row that is changed: the texts that it keeps and gets are short, and its cause is there

abbrev pub LetsBody : ℕ → List ℕ → Tables → Type 0
LetsBody id body tables = HasShort Command id tables × IsShort body

abbrev pub LetsVersion : Tables → Type 0
LetsVersion tables = HasShort Meta 1 tables

abbrev pub LetsCorrected : ℕ → Tables → Type 0
LetsCorrected cause tables = HasKey Cause cause tables

abbrev pub LetsWithdrawn : ℕ → Tables → Type 0
LetsWithdrawn id tables = HasShort Entry id tables

-- ---- hidden row numbers

-- the hidden numbers of the rows are 1, 2, 3 and so on
abbrev pub IsNumbered : List Row → Type 0
IsNumbered rows = map rowid rows ≡ map number (range_with_len 1 (length rows))

-- so are those of the two tables whose key is no row number: what commands moved, and the amounts
pub record AreNumbered (trees : Trees) : Type 0 where
  pub moved : IsNumbered (trees 12)
  pub amounts : IsNumbered (trees 14)

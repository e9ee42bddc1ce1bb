-- The rows of the eleven tables as a query shows them, and what holds them.
use Rattle.std.specs.Prelude.{◌≡◌, ℕ, ◌==◌, ◌&&◌, ◌≤◌, ℤ, pos, Bool, true, false, not, List, [], ◌∷◌, ◌++◌, Option, Some, None, is_some, unwrap_or, IsTrue, ⊤, length, map, filter, if◌then◌else◌, codes}
use Rattle.std.specs.List.{AllByRecursion}
use Rattle.std.specs.List.Sorted.{IsPermutation}
use Rattle.sqlite.specs.Order.{Row, column}
use Rattle.sqlite.specs.Tree.{Trees, has_rowid, rowid}
use Rattle.sqlite_trees.specs.View.{is_int}
use Rattle.sqlite.specs.Collation.TheVariants.{Binary}
use Rattle.sqlite_schema.specs.Rules.{equal}
use Rattle.sqlite.specs.declared.types.Value.{Value}
use Rattle.sqlite.specs.declared.types.Value.TheVariants.{Null, Int, Text}
use Rattle.ob_base.specs.declared.Pos.{Pos}
use Rattle.ob_base.specs.declared.Pos.TheVariants.{Opened, Closed}
use Rattle.ob_base.specs.declared.life.Life.{Life as ALife}
use Rattle.ob_net.specs.declared.net.Node.{Node as NetNode}
use Rattle.ob_net.specs.declared.net.Device.{Device as NetDevice}
use Rattle.ob_sheet.specs.declared.Entry.{Entry as SheetEntry}
use Rattle.ob_cust.specs.declared.Customer.{Customer as RollCustomer}
use Rattle.ob_sql_rows.specs.declared.table.Table.{Table}
use Rattle.ob_sql_rows.specs.declared.table.Table.TheVariants.{Meta, Cause, Node, Device, Life, Customer, Entry, Mark, Command, Moved, Posting}

abbrev pub table_name : Table → List ℕ
table_name Meta = codes "meta"
table_name Cause = codes "cause"
table_name Node = codes "node"
table_name Device = codes "device"
table_name Life = codes "life"
table_name Customer = codes "customer"
table_name Entry = codes "entry"
table_name Mark = codes "mark"
table_name Command = codes "cmd"
table_name Moved = codes "moved"
table_name Posting = codes "posting"

-- the columns of a row, in order
abbrev pub Columns : Type 0
Columns = List Value

-- of each table the rows
abbrev pub Tables : Type 0
Tables = Table → List Columns

-- the number of the tree that holds a table
abbrev pub tree_of : Table → ℕ
tree_of Meta = 0
tree_of Cause = 1
tree_of Node = 3
tree_of Device = 5
tree_of Customer = 7
tree_of Entry = 8
tree_of Mark = 9
tree_of Command = 10
tree_of Moved = 12
tree_of Posting = 14
tree_of Life = 16

-- where the columns stand in a stored row: the key is its rowid, or else the rowid isn't shown
abbrev pub places_of : Table → List ℕ
places_of Meta = 0 ∷ 2 ∷ 3 ∷ 4 ∷ 5 ∷ []
places_of Cause = 0 ∷ 2 ∷ []
places_of Node = 0 ∷ 2 ∷ 3 ∷ 4 ∷ []
places_of Device = 0 ∷ 2 ∷ 3 ∷ 4 ∷ 5 ∷ []
places_of Life = 0 ∷ 2 ∷ 3 ∷ []
places_of Customer = 0 ∷ 2 ∷ 3 ∷ 4 ∷ []
places_of Entry = 0 ∷ 2 ∷ 3 ∷ 4 ∷ 5 ∷ 6 ∷ 7 ∷ 8 ∷ []
places_of Mark = 0 ∷ 2 ∷ []
places_of Command = 0 ∷ 2 ∷ 3 ∷ []
places_of Moved = 1 ∷ 2 ∷ 3 ∷ 4 ∷ []
places_of Posting = 1 ∷ 2 ∷ 3 ∷ []

-- the columns of a stored row
abbrev pub shown : Table → Row → Columns
shown table row = map (column row) (places_of table)

-- each row has a number for its rowid, and no two have one
pub record AreApart (rows : List Row) : Type 0 where
  pub numbers : AllByRecursion (λ r. IsTrue (is_int (rowid r))) rows
  pub apart : (id : ℤ) → length (filter (has_rowid id) rows) ≤ 1

-- the trees hold these rows, in some order
pub record Holds (trees : Trees) (tables : Tables) : Type 0 where
  pub rows : (table : Table) → IsPermutation (map (shown table) (trees (tree_of table))) (tables table)
  -- the rows of amounts have hidden rowids
  pub apart : AreApart (trees 14)

abbrev pub number : ℕ → Value
number n = Int (pos n)

abbrev pub number_or_null : Option ℕ → Value
number_or_null None = Null
number_or_null (Some n) = number n

-- a device that is open, and one that is closed
abbrev pub position_number : Pos → ℕ
position_number Opened = 0
position_number Closed = 1

abbrev pub bit : Bool → ℕ
bit false = 0
bit true = 1

-- the one row of `meta`: number 1, the version, the first day, the count of days, the zone
abbrev pub meta_row : ℕ → List ℕ → ℕ → List ℕ → Columns
meta_row version first_day days zone = number 1 ∷ number version ∷ Text first_day ∷ number days ∷ Text zone ∷ []

abbrev pub cause_row : ℕ → List ℕ → Columns
cause_row code name = number code ∷ Text name ∷ []

-- 2 for a section, 0 for GRID, which is the node numbered 0, and 1 for a bus
abbrev pub node_kind : ℕ → NetNode → ℕ
node_kind id node = if is_some node.feeder then 2 else if id == 0 then 0 else 1

-- the node of a number, with its kind and its feeder, 0 where it is no section
abbrev pub node_row : ℕ → NetNode → Columns
node_row id node = number id ∷ Text node.name ∷ number (node_kind id node) ∷ number (unwrap_or node.feeder 0) ∷ []

-- the device of a number, between two nodes, with its normal position
abbrev pub device_row : ℕ → NetDevice → Columns
device_row id d = number id ∷ Text d.name ∷ number d.a ∷ number d.b ∷ number (position_number d.normal) ∷ []

-- the life of the device of a number
abbrev pub life_row : ℕ → ALife → Columns
life_row device life = number device ∷ number life.since ∷ number_or_null life.until ∷ []

-- a customer of a section, with its service
abbrev pub customer_row : RollCustomer → Columns
customer_row c = number c.no ∷ number c.section ∷ number c.since ∷ number_or_null c.until ∷ []

-- an entry of the sheet
abbrev pub entry_row : SheetEntry → Columns
entry_row e =
    number e.no ∷ number e.rev ∷ number e.device ∷ number (position_number e.pos) ∷ number e.second ∷ number e.cause
    ∷ Text e.crew ∷ number (bit e.kept) ∷ []

-- a marked day, with the engineer who marked it
abbrev pub mark_row : ℕ → List ℕ → Columns
mark_row day engineer = number day ∷ Text engineer ∷ []

-- the row of an accepted command
abbrev pub command_row : ℕ → List ℕ → List ℕ → Columns
command_row id reference body = number id ∷ Text reference ∷ Text body ∷ []

-- the row of an amount that a command moved
abbrev pub moved_row : ℕ → ℕ → ℕ → ℤ → Columns
moved_row id dim key delta = number id ∷ number dim ∷ number key ∷ Int delta ∷ []

-- the row of an amount
abbrev pub posting_row : ℕ → ℕ → ℕ → Columns
posting_row dim key amount = number dim ∷ number key ∷ number amount ∷ []

-- the column has this number
abbrev pub has_number : ℕ → ℕ → Columns → Bool
has_number place n row = equal Binary (column row place) (number n)

-- the row has this number for its key
abbrev pub is_key : ℕ → Columns → Bool
is_key id row = has_number 0 id row && true

-- the row is that of this dimension and key
abbrev pub is_posting : ℕ → ℕ → Columns → Bool
is_posting dim key row = has_number 0 dim row && (has_number 1 key row && true)

-- the row is that of the command with this reference
abbrev pub is_reference : List ℕ → Columns → Bool
is_reference reference row = equal Binary (column row 1) (Text reference) && true

-- the tables with one of them changed
abbrev pub with_table : Table → (List Columns → List Columns) → Tables → Tables
with_table table change tables other = if tree_of table == tree_of other then change (tables other) else tables other

-- with a row more
abbrev pub with_row : Table → Columns → Tables → Tables
with_row table row = with_table table (λ rows. rows ++ row ∷ [])

-- the rows that pass are changed
abbrev pub change_where : (Columns → Bool) → (Columns → Columns) → List Columns → List Columns
change_where test change = map (λ r. if test r then change r else r)

-- the rows of this key are changed
abbrev pub with_change : Table → ℕ → (Columns → Columns) → Tables → Tables
with_change table id change = with_table table (change_where (is_key id) change)

-- without the rows of this key
abbrev pub without_key : Table → ℕ → Tables → Tables
without_key table id = with_table table (filter (λ r. not (is_key id r)))

-- the amount of this dimension and key is another
abbrev pub with_amount : ℕ → ℕ → ℕ → List Columns → List Columns
with_amount dim key amount = change_where (is_posting dim key) (λ r. posting_row dim key amount)

abbrev pub with_posting : ℕ → ℕ → ℕ → Tables → Tables
with_posting dim key amount = with_table Posting (with_amount dim key amount)

-- a customer's row with the service of this one
abbrev pub serve : RollCustomer → Columns → Columns
serve c row = column row 0 ∷ column row 1 ∷ number c.since ∷ number_or_null c.until ∷ []

-- an entry's row with the revision, position, second, cause and crew of this one
abbrev pub correct : SheetEntry → Columns → Columns
correct e row =
    column row 0 ∷ number e.rev ∷ column row 2 ∷ number (position_number e.pos) ∷ number e.second ∷ number e.cause
    ∷ Text e.crew ∷ column row 7 ∷ []

-- an entry's row with another revision, not kept
abbrev pub withdraw : ℕ → Columns → Columns
withdraw revision row =
    column row 0 ∷ number revision ∷ column row 2 ∷ column row 3 ∷ column row 4 ∷ column row 5 ∷ column row 6
    ∷ number (bit false) ∷ []

-- a life's row with the ends of this life
abbrev pub relive : ALife → Columns → Columns
relive life row = column row 0 ∷ number life.since ∷ number_or_null life.until ∷ []

-- a command's row with another body
abbrev pub rebody : List ℕ → Columns → Columns
rebody body row = column row 0 ∷ column row 1 ∷ Text body ∷ []

-- the heading's row with another version
abbrev pub reversion : ℕ → Columns → Columns
reversion version row = column row 0 ∷ number version ∷ column row 2 ∷ column row 3 ∷ column row 4 ∷ []

-- of any tables
abbrev pub Always : Tables → Type 0
Always tables = ⊤

-- there is one row of this key, and it is this one
abbrev pub HasRow : Table → ℕ → Columns → Tables → Type 0
HasRow table id row tables = filter (is_key id) (tables table) ≡ row ∷ []

-- there is one row of this customer
pub record HasCustomer (id : ℕ) (tables : Tables) : Type 0 where
  pub customer : RollCustomer
  pub row : HasRow Customer id (customer_row customer) tables

-- there is one row of the life of this device
pub record HasLife (device : ℕ) (tables : Tables) : Type 0 where
  pub life : ALife
  pub row : HasRow Life device (life_row device life) tables

-- there is one row of the command of this number
pub record HasCommand (id : ℕ) (tables : Tables) : Type 0 where
  pub reference : List ℕ
  pub body : List ℕ
  pub row : HasRow Command id (command_row id reference body) tables

-- there is one heading
pub record HasHeading (tables : Tables) : Type 0 where
  pub version : ℕ
  pub first_day : List ℕ
  pub days : ℕ
  pub zone : List ℕ
  pub row : HasRow Meta 1 (meta_row version first_day days zone) tables

-- there is one row of this entry
pub record HasEntry (id : ℕ) (tables : Tables) : Type 0 where
  pub entry : SheetEntry
  pub row : HasRow Entry id (entry_row entry) tables

-- there is one row of this marked day
abbrev pub HasMark : ℕ → Tables → Type 0
HasMark day tables = (engineer : List ℕ) × HasRow Mark day (mark_row day engineer) tables

-- there is one row of this dimension and key
abbrev pub HasPosting : ℕ → ℕ → Tables → Type 0
HasPosting dim key tables = (was : ℕ) × (filter (is_posting dim key) (tables Posting) ≡ posting_row dim key was ∷ [])

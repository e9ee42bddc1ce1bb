-- The tables of a book, version 2.
use Rattle.std.specs.Prelude.{true, false, [], ◌∷◌, Some, None, codes, List, ℕ, pos, fold}
use Rattle.sqlite.specs.Collation.TheVariants.{Binary}
use Rattle.sqlite.specs.declared.types.Value.TheVariants.{Null, Int}
use Rattle.sqlite.specs.Table.{Table}
use Rattle.sqlite.specs.Term.{Term, lit, col, op2}
use Rattle.sqlite.specs.Schema.{Schema}
use Rattle.sqlite.specs.Change.{created}
use Rattle.sqlite.specs.Kind.TheVariants.{Integer, Text}
use Rattle.sqlite_sql.specs.declared.ops.BinaryOp.TheVariants.{Compare, And}
use Rattle.sqlite_sql.specs.declared.ops.CompareOp.{CompareOp}
use Rattle.sqlite_sql.specs.declared.ops.CompareOp.TheVariants.{Eq, Ne, Ge, Le}
use Rattle.sqlite_schema.specs.declared.schema.Column.{Column}
use Rattle.sqlite_schema.specs.declared.schema.Reference.{Reference}
use Rattle.sqlite_schema.specs.declared.schema.Action.TheVariants.{NoAction}
use Rattle.sqlite_value.specs.Keys.{plain}

abbrev pub integer : List ℕ → Column
integer name =
    record { name = name; kind = Integer; is_strict = true; not_null = true; default = Null; collation = Binary }

-- a column that may be NULL, as the rowid's own
abbrev pub loose : List ℕ → Column
loose name =
    record { name = name; kind = Integer; is_strict = true; not_null = false; default = Null; collation = Binary }

abbrev pub words : List ℕ → Column
words name =
    record { name = name; kind = Text; is_strict = true; not_null = true; default = Null; collation = Binary }

-- a table with its rowid as the key, and no rule beside
abbrev pub by_id : List ℕ → List Column → Table
by_id name columns = record {
  name = name;
  tree = 0;
  columns = columns;
  key = Some 0;
  primary = 0 ∷ [];
  uniques = [];
  orders = [];
  checks = [];
  references = [];
  computed = [];
  stamps = record { places = []; terms = []; formats = [] };
  is_counted = false;
}

-- the same, with a UNIQUE at place 2
abbrev pub by_id_and_name : List ℕ → List Column → Table
by_id_and_name name columns = record (by_id name columns) { uniques = (2 ∷ []) ∷ []; orders = plain ∷ [] }

-- the column at this place is a key of another table
abbrev pub refers : ℕ → List ℕ → List ℕ → Reference
refers place parent column = record {
  columns = place ∷ [];
  parent = parent;
  parent_columns = column ∷ [];
  on_delete = NoAction;
  on_update = NoAction;
  is_deferred = false;
}

abbrev pub compares : CompareOp → ℕ → ℕ → Term
compares op place n = op2 (Compare op Binary) (col 1 place) (lit (Int (pos n)))

-- the column at this place is 0 or 1
abbrev pub is_bit : ℕ → Term
is_bit place = op2 And (compares Ge place 0) (compares Le place 1)

-- a table with a key of several columns
abbrev pub by_columns : List ℕ → List ℕ → List Column → List Term → List Reference → Table
by_columns name places columns checks references = record {
  name = name;
  tree = 0;
  columns = columns;
  key = None;
  primary = places;
  uniques = places ∷ [];
  orders = plain ∷ [];
  checks = checks;
  references = references;
  computed = [];
  stamps = record { places = []; terms = []; formats = [] };
  is_counted = false;
}

abbrev pub meta_columns : List Column
meta_columns =
    loose (codes "id") ∷ integer (codes "version") ∷ words (codes "day0") ∷ integer (codes "days")
    ∷ words (codes "zone") ∷ []

abbrev pub meta_table : Table
meta_table = record (by_id (codes "meta") meta_columns) { checks = compares Eq 0 1 ∷ [] }

abbrev pub cause_table : Table
cause_table = by_id_and_name (codes "cause") (loose (codes "code") ∷ words (codes "name") ∷ [])

abbrev pub node_table : Table
node_table = by_id_and_name (codes "node")
    (loose (codes "id") ∷ words (codes "name") ∷ integer (codes "kind") ∷ integer (codes "feeder") ∷ [])

abbrev pub device_columns : List Column
device_columns =
    loose (codes "id") ∷ words (codes "name") ∷ integer (codes "a") ∷ integer (codes "b")
    ∷ integer (codes "normal") ∷ []

abbrev pub device_table : Table
device_table = record (by_id_and_name (codes "device") device_columns) {
  checks = is_bit 5 ∷ [];
  references = refers 3 (codes "node") (codes "id") ∷ refers 4 (codes "node") (codes "id") ∷ [];
}

abbrev pub customer_columns : List Column
customer_columns =
    loose (codes "id") ∷ integer (codes "section") ∷ integer (codes "since") ∷ loose (codes "until") ∷ []

abbrev pub customer_table : Table
customer_table =
    record (by_id (codes "customer") customer_columns) { references = refers 2 (codes "node") (codes "id") ∷ [] }

abbrev pub entry_columns : List Column
entry_columns =
    loose (codes "id") ∷ integer (codes "rev") ∷ integer (codes "device") ∷ integer (codes "pos")
    ∷ integer (codes "second") ∷ integer (codes "cause") ∷ words (codes "crew") ∷ integer (codes "kept") ∷ []

abbrev pub entry_table : Table
entry_table = record (by_id (codes "entry") entry_columns) {
  checks = is_bit 4 ∷ is_bit 8 ∷ [];
  references = refers 3 (codes "device") (codes "id") ∷ refers 6 (codes "cause") (codes "code") ∷ [];
}

abbrev pub mark_table : Table
mark_table = by_id (codes "mark") (loose (codes "day") ∷ words (codes "engineer") ∷ [])

abbrev pub command_table : Table
command_table = by_id_and_name (codes "cmd") (loose (codes "id") ∷ words (codes "ref") ∷ words (codes "body") ∷ [])

abbrev pub moved_table : Table
moved_table = by_columns (codes "moved") (1 ∷ 2 ∷ 3 ∷ [])
    (integer (codes "cmd") ∷ integer (codes "dim") ∷ integer (codes "k") ∷ integer (codes "delta") ∷ [])
    (compares Ne 4 0 ∷ []) (refers 1 (codes "cmd") (codes "id") ∷ [])

abbrev pub posting_table : Table
posting_table = by_columns (codes "posting") (1 ∷ 2 ∷ [])
    (integer (codes "dim") ∷ integer (codes "k") ∷ integer (codes "amount") ∷ []) (compares Ge 3 0 ∷ []) []

abbrev pub life_columns : List Column
life_columns = loose (codes "device") ∷ integer (codes "since") ∷ loose (codes "until") ∷ []

abbrev pub life_table : Table
life_table = record (by_id (codes "life") life_columns) { references = refers 0 (codes "device") (codes "id") ∷ [] }

abbrev pub book_tables : List Table
book_tables =
    meta_table ∷ cause_table ∷ node_table ∷ device_table ∷ customer_table ∷ entry_table ∷ mark_table ∷ command_table
    ∷ moved_table ∷ posting_table ∷ life_table ∷ []

abbrev pub no_schema : Schema
no_schema = record { tables = []; indexes = []; views = [] }

abbrev pub book_schema : Schema
book_schema = fold created no_schema book_tables

-- The rows of a table that a query lists by rising key, and how they go on as expected or otherwise.
use Rattle.std.specs.Prelude.{◌≡◌, ◌≢◌, ℕ, pos, negsuc, Bool, true, false, List, [], ◌∷◌, ◌++◌, map, take, None, Result, Ok, Err}
use Rattle.sqlite.specs.Order.{Row}
use Rattle.sqlite.specs.Term.{lit, col}
use Rattle.sqlite.specs.Query.{Query, Output, inner, end}
use Rattle.sqlite.specs.Collation.TheVariants.{Binary}
use Rattle.sqlite.specs.declared.types.Value.TheVariants.{Int}
use Rattle.sqlite_value.specs.declared.keys.Key.{Key}
use Rattle.sqlite.specs.Command.{Command as SqlCommand}
use Rattle.sqlite.specs.Command.TheVariants.{Select}
use Rattle.sqlite.specs.Effect.{Database, Reads}
use Rattle.sqlite.specs.Listing.{understood, reads_listing}
use Rattle.sqlite.specs.Schema.{Schema}
use Rattle.sqlite_trees.specs.declared.store.Store.{Ghosts}
use Rattle.sqlite_resolve.specs.declared.compiled.Compiled.{Compiled}
use Rattle.sqlite_resolve.specs.declared.error.CompileError.{CompileError}
use Rattle.sqlite.specs.Held.{Held, state}
use Rattle.sqlite.specs.Given.{HasGiven, IsPlain}
use Rattle.ob_book.specs.Acts.{Referenced}
use Rattle.ob_sql_rows.specs.Queries.{IsAlwaysAnswered}
use Rattle.ob_sql_rows.specs.Rows.{tree_of, places_of}
use Rattle.ob_sql_rows.specs.declared.table.Table.{Table}
use Rattle.ob_sql_read.specs.declared.filed.Filed.{Filed}

-- a query of the rows of a table, all columns of each, by rising key
pub record Listing : Type 0 where
  pub table : Table
  -- the key is the first so many columns
  pub keys : ℕ
  -- the names of the columns
  pub names : List (List ℕ)
  pub text : List ℕ

abbrev pub upward : Key
upward = record { collation = Binary; descending = false }

abbrev pub list_query : Listing → Query
list_query l = record {
  from = inner (tree_of l.table) end;
  filter = [];
  group = None;
  project = map (col 1) (places_of l.table);
  distinct = false;
  collations = [];
  order = map (λ place. (col 1 place, upward)) (take l.keys (places_of l.table));
  limit = lit (Int (negsuc 0));
  offset = lit (Int (pos 0));
}

abbrev pub list_command : Listing → SqlCommand
list_command l = Select (record { lets = []; body = list_query l }) l.names

abbrev pub Means : Result Compiled CompileError → SqlCommand → Type 0
Means (Ok c) command = c.command ≡ command
Means (Err e) command = ⊥

-- at whatever schema, the text shows no rows of a write, and so commits nothing
abbrev pub ShowsNoWrite : List ℕ → Type 0
ShowsNoWrite text = (schema : Schema) (c : Compiled) → understood schema text ≡ Ok c → c.returning ≡ None

-- at the schema the text means this query, and it writes at no schema
pub record IsListingOver (schema : Schema) (l : Listing) : Type 0 where
  pub means : Means (understood schema l.text) (list_command l)
  pub plain : IsPlain (understood schema l.text)
  pub unlisted : reads_listing schema l.text ≡ false
  pub silent : ShowsNoWrite l.text
  -- and no database of the schema refuses it
  pub answered : IsAlwaysAnswered schema l.text []

-- the key of a row, and the row
abbrev pub keyed : Listing → Row → Output
keyed l row = (take l.keys row, row)

-- these rows are an answer of the query
abbrev pub Lists : Listing → Database → List Row → Type 0
Lists l db answer = Reads (list_command l) db [] answer

-- some answer doesn't go on like this
abbrev pub IsOff : Listing → Database → List Row → List Row → Type 0
IsOff l db given expected =
    (answer : List Row) × Lists l db answer × ((rest : List Row) → answer ≢ given ++ (expected ++ rest))

-- the rows go on as expected, or some answer goes on otherwise
abbrev pub Goes : {S : Type 0} (g : Ghosts S) → Listing → Bool → Held S → List Row → List Row → Type 0
Goes g l true new given expected = HasGiven g l.text [] new (given ++ expected)
Goes g l false new given expected = IsOff l (state g new).now given expected

-- the rows so far are an answer, or some answer has a row more
abbrev pub Ends : {S : Type 0} (g : Ghosts S) → Listing → Bool → Held S → List Row → Type 0
Ends g l true new given = Lists l (state g new).now given
Ends g l false new given =
    (row : Row) × (rest : List Row) × Lists l (state g new).now (given ++ (row ∷ rest))

abbrev pub referenced : Filed → Referenced
referenced f = record { reference = f.reference; command = f.command }

-- the commands under their references
abbrev pub filed_of : List Filed → List Referenced
filed_of list = map referenced list

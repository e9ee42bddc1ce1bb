-- The tables of a new book.
use Rattle.std.specs.List.{All, AllPairs, list_any}
use Rattle.std.specs.Prelude.{◌≡◌, ◌≢◌, ◌<◌, ◌+◌, ◌^◌, false, length, ℕ, List, [], ◌∷◌, ◌++◌, map, codes, None, IsTrue}
use Rattle.sqlite.specs.Effect.{IsDatabase}
use Rattle.sqlite.specs.State.{State}
use Rattle.ob_post.specs.Keys.{dim_number}
use Rattle.ob_post.specs.declared.Dim.{Dim}
use Rattle.ob_sql_rows.specs.Creation.{LetsBook}
use Rattle.ob_sql_rows.specs.Rules.{AreNumbered, IsShort}
use Rattle.ob_sql_rows.specs.Schema.{no_schema, book_schema}
use Rattle.ob_sql_rows.specs.Rows.{Tables, Holds, is_posting, with_row, with_table, meta_row, cause_row, node_row}
use Rattle.ob_sql_rows.specs.declared.table.Table.TheVariants.{Meta, Cause, Node, Device, Life, Customer, Entry, Mark, Command, Moved, Posting}
use Rattle.ob_sql_write.specs.Amounts.{amount_row, amount_rows}

-- no second is posted under any key
abbrev pub no_amount : Dim → ℕ → ℕ
no_amount dim key = 0

-- its period, from this day on for this many days in this zone, cause 0, GRID, and an amount of 0 under each key
abbrev pub new_tables : List ℕ → ℕ → List ℕ → Tables
new_tables first days zone Meta = meta_row 2 first days zone ∷ []
new_tables first days zone Cause = cause_row 0 (codes "UNASSIGNED") ∷ []
new_tables first days zone Node = node_row 0 (record { name = codes "GRID"; feeder = None }) ∷ []
new_tables first days zone Device = []
new_tables first days zone Life = []
new_tables first days zone Customer = []
new_tables first days zone Entry = []
new_tables first days zone Mark = []
new_tables first days zone Command = []
new_tables first days zone Moved = []
new_tables first days zone Posting = amount_rows days no_amount

-- with the rows of the period, of cause 0 and of GRID
abbrev pub with_heading : List ℕ → ℕ → List ℕ → Tables → Tables
with_heading first days zone tables =
    with_row Node (node_row 0 (record { name = codes "GRID"; feeder = None }))
    (with_row Cause (cause_row 0 (codes "UNASSIGNED")) (with_row Meta (meta_row 2 first days zone) tables))

-- the rules of the tables let these rows in: no row stands in the three tables, and the texts fit
pub record LetsHeading (first zone : List ℕ) (t : Tables) : Type 0 where
  pub meta : t Meta ≡ []
  pub causes : t Cause ≡ []
  pub nodes : t Node ≡ []
  pub first_fits : IsShort first
  pub zone_fits : IsShort zone

-- with an amount of 0 under each of these keys
abbrev pub with_zeros : List (Dim × ℕ) → Tables → Tables
with_zeros these = with_table Posting (λ rows. rows ++ map (amount_row no_amount) these)

-- these keys of a dimension
abbrev pub keys_of : Dim → List ℕ → List (Dim × ℕ)
keys_of dim = map (λ key. (dim, key))

-- the rules of the tables let these rows in: no amount stands under one of the keys, none comes twice, and there are row
-- numbers for all
pub record LetsZeros (these : List (Dim × ℕ)) (t : Tables) : Type 0 where
  pub free : All (λ k. list_any (is_posting (dim_number k.0) k.1) (t Posting) ≡ false) these
  pub apart : AllPairs (λ k l. k ≢ l) these
  pub room : length (t Posting) + length these < 2 ^ 63

-- inside a transaction over an empty database, the tables of a book were made, with these rows
pub record MakesNew (tables : Tables) (old new : State) : Type 0 where
  pub live : IsTrue old.is_open
  pub stays : IsTrue new.is_open
  pub inside : IsTrue new.in_transaction
  pub schema : old.now.schema ≡ no_schema → new.now.schema ≡ book_schema
  pub sound : old.now.schema ≡ no_schema → IsDatabase new.now
  pub holds : old.now.schema ≡ no_schema → Holds new.now.trees tables
  pub numbered : old.now.schema ≡ no_schema → AreNumbered new.now.trees

-- a whole database that holds nothing, and texts of the period that fit
pub record LetsNew (first zone : List ℕ) (s : State) : Type 0 where
  pub book : LetsBook s
  pub first_fits : IsShort first
  pub zone_fits : IsShort zone

-- What a command moved, as rows.
use Rattle.std.specs.Prelude.{◌≡◌, ◌<◌, ◌^◌, ℕ, List, [], map, filter, IsSorted}
use Rattle.std.specs.List.{All}
use Rattle.std.specs.List.Sorted.{IsPermutation}
use Rattle.std.specs.declared.cmp.Ordering.{Ordering}
use Rattle.sqlite_value.specs.Keys.{rising}
use Rattle.sqlite.specs.Order.{Row}
use Rattle.sqlite.specs.Query.{key_cmp}
use Rattle.sqlite.specs.State.{State}
use Rattle.ob_post.specs.Keys.{dim_number}
use Rattle.ob_post.specs.declared.Moved.{Moved}
use Rattle.ob_sql_rows.specs.Schema.{book_schema}
use Rattle.ob_sql_rows.specs.Rows.{Columns, Tables, Holds, is_key, moved_row}
use Rattle.ob_sql_rows.specs.declared.table.Table.TheVariants.{Moved as Moves}

-- the row of an amount that the command of a number moved
abbrev pub row_of : ℕ → Moved → Columns
row_of id m = moved_row id (dim_number m.dim) m.key m.delta

-- the rows of what it moved
abbrev pub rows_of : ℕ → List Moved → List Columns
rows_of id moves = map (row_of id) moves

-- the keys are numbers of 16 bits, as the program reads them
abbrev pub HaveSmallKeys : List Moved → Type 0
HaveSmallKeys moves = All (λ m. m.key < 2 ^ 16) moves

-- the row is that of an amount that the command of a number moved, under such a key
abbrev pub IsMoveOf : ℕ → Row → Type 0
IsMoveOf id row = (m : Moved) × (m.key < 2 ^ 16) × (row ≡ row_of id m)

-- the store's order of rows by the second column and then by the third
abbrev pub by_dimension_and_key : Row → Row → Ordering
by_dimension_and_key = key_cmp 1 (rising 2 [])

-- these are the rows of the command of a number, by dimension and key
pub record AreMovesIn (table : List Columns) (id : ℕ) (rows : List Row) : Type 0 where
  pub same : IsPermutation (filter (is_key id) table) rows
  pub sorted : IsSorted by_dimension_and_key rows

-- whatever tables of a book are held, these are the rows of the command of a number, by dimension and key
abbrev pub FindsMoves : State → ℕ → List Row → Type 0
FindsMoves s id rows = s.now.schema ≡ book_schema → (tables : Tables) → Holds s.now.trees tables
    → AreMovesIn (tables Moves) id rows

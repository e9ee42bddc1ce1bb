-- The version of a book, as its heading tells it.
use Rattle.std.specs.Prelude.{◌≡◌, ◌⊎◌, ℕ, List, [], ◌∷◌}
use Rattle.sqlite.specs.Order.{column}
use Rattle.sqlite.specs.Schema.{Schema}
use Rattle.sqlite.specs.Tree.{Trees}
use Rattle.ob_sql_rows.specs.Creation.{old_schema}
use Rattle.ob_sql_rows.specs.Schema.{book_schema}
use Rattle.ob_sql_rows.specs.Rows.{Columns, number}
use Rattle.ob_sql_rows.specs.declared.table.Table.TheVariants.{Meta}
use Rattle.ob_record.specs.Tables.{Shows}

-- the rows are one, with this version
abbrev pub IsVersionRow : ℕ → List Columns → Type 0
IsVersionRow version rows = (row : Columns) × (rows ≡ row ∷ []) × (column row 1 ≡ number version)

-- `meta` holds one row, with this version
abbrev pub HasVersion : ℕ → Trees → Type 0
HasVersion version trees = (row : Columns) × Shows trees Meta (row ∷ []) × (column row 1 ≡ number version)

-- the tables are those of a book of version 2, or of version 1, which lack that of lives
abbrev pub IsOfBook : Schema → Type 0
IsOfBook schema = (schema ≡ book_schema) ⊎ (schema ≡ old_schema)

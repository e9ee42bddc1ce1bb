-- Which tables a database has, by their names.
use Rattle.std.specs.Prelude.{◌≡◌, List, [], ◌∷◌, length, map}
use Rattle.sqlite.specs.Schema.{Schema}
use Rattle.sqlite.specs.Table.{Table as Stored}
use Rattle.ob_sql_rows.specs.Rows.{table_name}
use Rattle.ob_sql_rows.specs.declared.table.Table.{Table}
use Rattle.ob_sql_rows.specs.declared.table.Table.TheVariants.{Meta, Cause, Node, Device, Life, Customer, Entry, Mark, Command, Moved, Posting}
use Rattle.ob_sql_rows.specs.declared.version.Version.{Version}
use Rattle.ob_sql_rows.specs.declared.version.Version.TheVariants.{One, Two}

-- the tables of a version, in the order in which they are made
abbrev pub tables_made : Version → List Table
tables_made One = Meta ∷ Cause ∷ Node ∷ Device ∷ Customer ∷ Entry ∷ Mark ∷ Command ∷ Moved ∷ Posting ∷ []
tables_made Two = Meta ∷ Cause ∷ Node ∷ Device ∷ Customer ∷ Entry ∷ Mark ∷ Command ∷ Moved ∷ Posting ∷ Life ∷ []

-- the tables have these names, in this order, and six indexes; there is no other one and no view
abbrev pub HasShape : List Table → Schema → Type 0
HasShape known s = (map (λ (t : Stored). t.name) s.tables ≡ map table_name known) × (length s.indexes ≡ 6) × (s.views ≡ [])

-- they have the names of a version's tables
abbrev pub IsShapeOf : Version → Schema → Type 0
IsShapeOf version s = HasShape (tables_made version) s

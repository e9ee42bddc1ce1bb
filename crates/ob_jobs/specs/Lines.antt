-- The lines that jobs tell their end by.
use Rattle.std.specs.Prelude.{ℕ, List, ◌++◌, Bool, true, false, Option, Some, None, codes}
use Rattle.ob_sql_rows.specs.Rows.{table_name}
use Rattle.ob_sql_rows.specs.declared.table.Table.{Table}

-- a book was made
abbrev pub created_line : List ℕ
created_line = codes "created\n"

-- no table differs, or this is the first that does
abbrev pub audit_line : Option Table → List ℕ
audit_line None = codes "audit ok\n"
audit_line (Some table) = codes "audit differs " ++ (table_name table ++ codes "\n")

-- the tables were made those of version 2, or they were so already
abbrev pub migrate_line : Bool → List ℕ
migrate_line true = codes "migrated\n"
migrate_line false = codes "version 2\n"

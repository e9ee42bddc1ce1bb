-- What commands under references move, as the rows of a table.
use Rattle.std.specs.Prelude.{◌≡◌, List, [], ◌∷◌, Some, map, codes}
use Rattle.std.specs.List.Sorted.{IsPermutation}
use Rattle.ob_command.specs.declared.command.Command.{Command}
use Rattle.ob_state.specs.State.{BookState}
use Rattle.ob_book.specs.Acts.{Referenced}
use Rattle.ob_sql_rows.specs.Rows.{Columns}
use Rattle.ob_sql_rows.specs.declared.table.Table.TheVariants.{Moved}
use Rattle.ob_sql_rows.specs.declared.version.Version.{Version}
use Rattle.ob_record.specs.Tables.{moved_rows}
use Rattle.ob_sql_read.specs.Listing.{Listing}
use Rattle.ob_sql_read.specs.Versioned.{next_all_in}

-- the rows of moved amounts, by number, dimension and key
abbrev pub moved_listing : Listing
moved_listing = record {
  table = Moved;
  keys = 3;
  names = codes "cmd" ∷ codes "dim" ∷ codes "k" ∷ codes "delta" ∷ [];
  text = codes "SELECT cmd, dim, k, delta FROM moved ORDER BY cmd, dim, k";
}

abbrev pub commands_of : List Referenced → List Command
commands_of list = map (λ (a : Referenced). a.command) list

-- a version accepts each command in its turn, and the table has the rows of what they move, and no other
abbrev pub HasMoved : Version → List Columns → BookState → List Referenced → Type 0
HasMoved version table b list =
    (c : BookState) × (next_all_in version b (commands_of list) ≡ Some c) × IsPermutation table (moved_rows b 1 list)

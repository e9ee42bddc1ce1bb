-- Rows of moved amounts that are added together.
use Rattle.std.specs.Prelude.{ℕ, List, [], ◌∷◌, fold, ⊤}
use Rattle.std.specs.List.{flat_map}
use Rattle.sqlite.specs.Order.{Row}
use Rattle.sqlite.specs.declared.types.Value.TheVariants.{Int}
use Rattle.ob_sql_rows.specs.Rows.{Tables, number, with_row, moved_row}
use Rattle.ob_sql_rows.specs.Rules.{LetsMoved}
use Rattle.ob_sql_rows.specs.declared.block.MovedAmount.{MovedAmount}
use Rattle.ob_sql_rows.specs.declared.table.Table.TheVariants.{Moved}

-- the row of each amount that the command moved, one after another
abbrev pub with_moved_rows : ℕ → List MovedAmount → Tables → Tables
with_moved_rows id amounts tables =
    fold (λ t (m : MovedAmount). with_row Moved (moved_row id m.dim m.key m.delta) t) tables amounts

-- the rules let in each of them once those before it are there
abbrev pub LetsMovedRows : ℕ → List MovedAmount → Tables → Type 0
LetsMovedRows id [] tables = ⊤
LetsMovedRows id (m ∷ amounts) tables =
    LetsMoved id m.dim m.key m.delta tables
    × LetsMovedRows id amounts (with_row Moved (moved_row id m.dim m.key m.delta) tables)

-- the number of the command, which each row has, and then what each has beside it
abbrev pub block_params : ℕ → List MovedAmount → Row
block_params id amounts =
    number id ∷ flat_map (λ (m : MovedAmount). number m.dim ∷ number m.key ∷ Int m.delta ∷ []) amounts

use Rattle.std.proofs.Common.{◌≡◌, map, take}
use Rattle.ob_sql_rows.specs.Rows.{table_name}
use Rattle.ob_store.proofs.version.are_named.Given as goal

-- the names so far are these
abbrev pub invariant-names : goal.invariant-names
invariant-names l = take l.at (map (λ t. t.name) l.fn.tables) ≡ take l.at (map table_name l.fn.known)

use Rattle.std.proofs.Common.{◌≡◌, take}
use Rattle.ob_sql_write.specs.Stored.{rows_of}
use Rattle.ob_sql_write.proofs.stored.read_moves.Given as goal

abbrev pub invariant-rows : goal.invariant-rows
invariant-rows l = take l.row-index l.rows ≡ rows_of l.no l.moves.items

use Rattle.std.proofs.Common.{◌≡◌, take, IsTrue}
use Rattle.sqlite.specs.State.{HasCleanDisk}
use Rattle.sqlite.specs.Held.{state}
use Rattle.ob_sql_rows.specs.Steps.{Silent, Makes}
use Rattle.ob_sql_write.specs.Moves.{HasAmounts, with_amounts}
use Rattle.ob_sql_write.proofs.moves.set_amounts.Given as goal

-- the amounts so far are written, and nothing is committed
abbrev pub invariant-moves : goal.invariant-moves
invariant-moves g l =
    let old = state g.S.Store l.fn.tx.conn.now in
    let now = state g.S.Store l.tx.conn.now in
    (l.tx.conn.ghost_name ≡ l.fn.tx.conn.ghost_name) × Silent old now
    × (HasCleanDisk now → IsTrue old.is_open → IsTrue old.in_transaction
    → Makes old now (HasAmounts l.postings (take l.at l.moves)) (with_amounts l.postings (take l.at l.moves)))

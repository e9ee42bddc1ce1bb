use Rattle.std.proofs.Common.{◌≡◌, ◌-◌, IsTrue}
use Rattle.std.specs.List.{range_with_len}
use Rattle.sqlite.specs.State.{HasCleanDisk}
use Rattle.sqlite.specs.Held.{state}
use Rattle.ob_sql_rows.specs.Steps.{Silent, Makes}
use Rattle.ob_sql_rows.specs.Rows.{Always}
use Rattle.ob_sql_write.specs.NewBook.{with_zeros, keys_of}
use Rattle.ob_sql_write.proofs.writing.write_keys.Given as goal

-- the rows of the keys so far are added, and nothing is committed
abbrev pub invariant-loop-key : goal.invariant-loop-key
invariant-loop-key g l =
    let old = state g.S.Store l.fn.tx.conn.now in
    let now = state g.S.Store l.tx.conn.now in
    (l.tx.conn.ghost_name ≡ l.fn.tx.conn.ghost_name) × Silent old now
    × (HasCleanDisk now → IsTrue old.is_open → IsTrue old.in_transaction → Makes old now Always (with_zeros (keys_of l.fn.dim (range_with_len l.initial.key (l.key - l.initial.key)))))

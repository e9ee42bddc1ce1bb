use Rattle.std.proofs.Common.{◌≡◌, IsTrue}
use Rattle.sqlite.specs.State.{HasCleanDisk}
use Rattle.sqlite.specs.Held.{state}
use Rattle.ob_sql_rows.specs.Rows.{Always}
use Rattle.ob_sql_rows.specs.Steps.{Silent, Makes}
use Rattle.ob_sql_write.specs.Upgrade.{with_lives}
use Rattle.ob_sql_write.proofs.upgrade.write_lives.Given as goal

-- the lives so far are written, and nothing is committed
abbrev pub invariant-lives : goal.invariant-lives
invariant-lives g l =
    let old = state g.S.Store l.fn.tx.conn.now in
    let now = state g.S.Store l.tx.conn.now in
    (l.tx.conn.ghost_name ≡ l.fn.tx.conn.ghost_name) × Silent old now
    × (HasCleanDisk now → IsTrue old.is_open → IsTrue old.in_transaction → Makes old now Always (with_lives l.at))

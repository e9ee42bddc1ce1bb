use Rattle.std.proofs.Common.{◌≡◌, take, IsTrue}
use Rattle.sqlite.specs.State.{HasCleanDisk}
use Rattle.sqlite.specs.Held.{state}
use Rattle.ob_sql_rows.specs.Steps.{Silent, Makes}
use Rattle.ob_sql_write.specs.Upgrade.{HasBodies, with_bodies}
use Rattle.ob_sql_write.proofs.upgrade.write_bodies.Given as goal

-- the bodies so far are written, and nothing is committed
abbrev pub invariant-bodies : goal.invariant-bodies
invariant-bodies g l =
    let old = state g.S.Store l.fn.tx.conn.now in
    let now = state g.S.Store l.tx.conn.now in
    (l.tx.conn.ghost_name ≡ l.fn.tx.conn.ghost_name) × Silent old now
    × (HasCleanDisk now → IsTrue old.is_open → IsTrue old.in_transaction → Makes old now (HasBodies (take l.at l.bodies)) (with_bodies (take l.at l.bodies)))

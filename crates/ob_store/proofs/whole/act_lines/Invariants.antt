use Rattle.std.proofs.Common.{◌≡◌, ◌≤◌, IsTrue}
use Rattle.sqlite.specs.Held.{state}
use Rattle.sqlite.specs.State.{HasCleanDisk}
use Rattle.ob_sql_rows.specs.Steps.{Silent}
use Rattle.ob_store.proofs.Giving.{LinesTurn}
use Rattle.ob_store.proofs.whole.act_lines.Given as goal

-- the lines before this one are in the tables and in memory, each was searched for as it may be, and nothing is committed
abbrev pub invariant-each : goal.invariant-each
invariant-each g l =
    let old = state g.S.Store l.fn.tx.conn.now in
    let now = state g.S.Store l.tx.conn.now in
    (l.tx.conn.ghost_name ≡ l.fn.tx.conn.ghost_name) × Silent old now × (l.added ≤ l.place)
    × (HasCleanDisk now → IsTrue now.in_transaction)
    × LinesTurn g.L.Lines.gives g.T.Timeline.bound old now l.fn.lines l.lines l.fn.first l.line l.fn.book.state l.book.state l.fn.book.searches l.book.searches l.place l.added

use Rattle.std.proofs.Common.{◌≡◌, IsTrue}
use Rattle.sqlite.specs.Held.{state}
use Rattle.sqlite.specs.State.{HasCleanDisk}
use Rattle.ob_sql_rows.specs.Steps.{Silent}
use Rattle.ob_sql_rows.specs.Creation.{LetsBook, LetsTable, MakesUpTo}
use Rattle.ob_sql_rows.proofs.creation.create_tables.Given as goal

-- the tables so far are made, nothing is committed, and where the book is let in the next table is
abbrev pub invariant-tables : goal.invariant-tables
invariant-tables g l =
    let old = state g.S.Store l.fn.tx.conn.now in
    let now = state g.S.Store l.tx.conn.now in
    (l.tx.conn.ghost_name ≡ l.fn.tx.conn.ghost_name) × Silent old now
    × (HasCleanDisk now → IsTrue old.in_transaction → MakesUpTo 0 l.at old now × (LetsBook old → LetsTable l.at now))

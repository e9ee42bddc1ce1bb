use Rattle.std.proofs.Common.{◌≡◌, List, [], length, map, IsTrue, false}
use Rattle.sqlite.specs.State.{HasCleanDisk, IsUnchanged, Survives}
use Rattle.sqlite.specs.Held.{state}
use Rattle.sqlite.specs.Given.{HasGiven}
use Rattle.ob_sql_rows.specs.Schema.{book_schema}
use Rattle.ob_sql_rows.specs.Rows.{Tables}
use Rattle.ob_sql_write.specs.Keeps.{Keeps}
use Rattle.ob_sql_read.specs.Moves.{moved_listing}
use Rattle.ob_store.specs.MovingOut.{Numbered, TakesAll, row_of_move}
use Rattle.ob_store.proofs.moving.hand_rows.Given as goal

-- what the sink took is what the rows that were given say
abbrev pub invariant-moves : goal.invariant-moves
invariant-moves g l =
    let old = state g.S.Store l.fn.rows.conn.now in
    let now = state g.S.Store l.rows.conn.now in
    (l.rows.conn.ghost_name ≡ l.fn.rows.conn.ghost_name) × Survives old now (λ _. ⊥) × (l.fn.rows.conn.now.in_transaction ≡ false → l.rows.conn.now.in_transaction ≡ false)
    × ((t : Tables) → Keeps old t → Keeps now t)
    × ((front : List Numbered) × TakesAll g.V.MoveSink.takes l.fn.sink front l.sink × (l.count ≡ length front)
    × (HasCleanDisk now → IsTrue old.is_open → IsUnchanged old now
    × (old.now.schema ≡ book_schema → HasGiven g.S.Store moved_listing.text [] l.fn.rows.conn.now [] → HasGiven g.S.Store moved_listing.text [] l.rows.conn.now (map row_of_move front))))

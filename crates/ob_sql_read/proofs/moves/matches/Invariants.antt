use Rattle.std.proofs.Common.{◌≡◌, List, [], ◌++◌, take, IsTrue, false}
use Rattle.sqlite.specs.Order.{Row}
use Rattle.sqlite.specs.State.{HasCleanDisk, IsUnchanged, Survives}
use Rattle.sqlite.specs.Held.{state}
use Rattle.sqlite.specs.Given.{HasGiven}
use Rattle.ob_sql_rows.specs.Versions.{schema_of}
use Rattle.ob_sql_rows.specs.declared.version.Version.{Version}
use Rattle.ob_sql_rows.specs.Rows.{Tables}
use Rattle.ob_sql_write.specs.Keeps.{KeepsIn}
use Rattle.ob_record.specs.Tables.{rows_of_moves}
use Rattle.ob_sql_read.specs.Moves.{moved_listing}
use Rattle.ob_sql_read.proofs.moves.matches.Given as goal

-- the rows so far were as expected
abbrev pub invariant-moves : goal.invariant-moves
invariant-moves g l =
    let old = state g.S.Store l.fn.rows.conn.now in
    let now = state g.S.Store l.rows.conn.now in
    (l.rows.conn.ghost_name ≡ l.fn.rows.conn.ghost_name) × Survives old now (λ _. ⊥) × (l.fn.rows.conn.now.in_transaction ≡ false → l.rows.conn.now.in_transaction ≡ false)
    × (HasCleanDisk now → (IsTrue old.is_open → IsUnchanged old now)
    × (IsTrue old.is_open → (v : Version) → old.now.schema ≡ schema_of v → (given : List Row) → HasGiven g.S.Store moved_listing.text [] l.fn.rows.conn.now given → HasGiven g.S.Store moved_listing.text [] l.rows.conn.now (given ++ take l.at (rows_of_moves l.no l.moves))))
    × ((v : Version) (t : Tables) → KeepsIn v old t → KeepsIn v now t)

use Rattle.std.proofs.Common.{◌≡◌, List, [], IsTrue, false}
use Rattle.sqlite.specs.Order.{Row}
use Rattle.sqlite.specs.State.{HasCleanDisk, IsUnchanged, Survives}
use Rattle.sqlite.specs.Held.{state}
use Rattle.sqlite.specs.Given.{HasGiven}
use Rattle.ob_sql_rows.specs.Versions.{schema_of}
use Rattle.ob_sql_rows.specs.declared.version.Version.{Version}
use Rattle.ob_sql_rows.specs.Rows.{Tables}
use Rattle.ob_sql_write.specs.Keeps.{KeepsIn}
use Rattle.ob_sql_read.specs.Apart.{number_text}
use Rattle.ob_sql_read.proofs.RowNumbers.{RiseTo, room}
use Rattle.ob_sql_read.proofs.apart.rise.Given as goal

-- the numbers so far rise, up to the last
abbrev pub invariant-rows : goal.invariant-rows
invariant-rows g l =
    let old = state g.S.Store l.fn.rows.conn.now in
    let now = state g.S.Store l.rows.conn.now in
    (l.rows.conn.ghost_name ≡ l.fn.rows.conn.ghost_name) × Survives old now (λ _. ⊥) × (l.fn.rows.conn.now.in_transaction ≡ false → l.rows.conn.now.in_transaction ≡ false)
    × (HasCleanDisk now → (IsTrue old.is_open → IsUnchanged old now)
    × (IsTrue old.is_open → (v : Version) → old.now.schema ≡ schema_of v → HasGiven g.S.Store number_text [] l.fn.rows.conn.now []
    → (given : List Row) × HasGiven g.S.Store number_text [] l.rows.conn.now given × RiseTo l.last given))
    × ((v : Version) (t : Tables) → KeepsIn v old t → KeepsIn v now t)

abbrev pub decreases-rows : goal.decreases-rows
decreases-rows g l = room l.last

use Rattle.std.proofs.Common.{◌≡◌, List, [], ◌++◌, take, IsTrue, false}
use Rattle.sqlite.specs.Order.{Row}
use Rattle.sqlite.specs.State.{HasCleanDisk, IsUnchanged, Survives}
use Rattle.sqlite.specs.Held.{state}
use Rattle.sqlite.specs.Given.{HasGiven}
use Rattle.ob_sql_rows.specs.Listings.{select_of}
use Rattle.ob_sql_rows.specs.Versions.{Has, schema_of}
use Rattle.ob_sql_rows.specs.declared.version.Version.{Version}
use Rattle.ob_sql_rows.specs.Rows.{Tables}
use Rattle.ob_sql_write.specs.Keeps.{KeepsIn}
use Rattle.ob_sql_read.specs.Parts.{standing}
use Rattle.ob_sql_read.proofs.listed.follows.Given as goal

-- the rows so far were as expected
abbrev pub invariant-places : goal.invariant-places
invariant-places g l =
    let old = state g.S.Store l.fn.rows.conn.now in
    let now = state g.S.Store l.rows.conn.now in
    let t = g.L.Listed.table in
    (l.rows.conn.ghost_name ≡ l.fn.rows.conn.ghost_name) × Survives old now (λ _. ⊥) × (l.fn.rows.conn.now.in_transaction ≡ false → l.rows.conn.now.in_transaction ≡ false)
    × (HasCleanDisk now → (IsTrue old.is_open → IsUnchanged old now)
    × (IsTrue old.is_open → (v : Version) → Has v t → old.now.schema ≡ schema_of v → (given : List Row) → HasGiven g.S.Store (select_of t) [] l.fn.rows.conn.now given
    → HasGiven g.S.Store (select_of t) [] l.rows.conn.now (given ++ standing (take l.at (g.L.Listed.places l.listed)))))
    × ((v : Version) (t : Tables) → KeepsIn v old t → KeepsIn v now t)

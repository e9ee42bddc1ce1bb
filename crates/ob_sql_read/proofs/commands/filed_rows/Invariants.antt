use Rattle.std.proofs.Common.{◌≡◌, List, [], length, IsTrue, false}
use Rattle.std.specs.List.{AllByRecursion}
use Rattle.sqlite.specs.State.{HasCleanDisk, IsUnchanged, Survives}
use Rattle.sqlite.specs.Held.{state}
use Rattle.sqlite.specs.Given.{HasGiven}
use Rattle.ob_sql_rows.specs.Versions.{schema_of}
use Rattle.ob_sql_rows.specs.declared.version.Version.{Version}
use Rattle.ob_sql_rows.specs.Rows.{Tables}
use Rattle.ob_sql_write.specs.Keeps.{KeepsIn}
use Rattle.ob_sql_read.specs.Listing.{filed_of}
use Rattle.ob_sql_read.specs.Ordered.{Numbered, rows_under}
use Rattle.ob_sql_read.specs.Reading.{command_listing}
use Rattle.ob_sql_read.proofs.Ordered.{IsRead}
use Rattle.ob_sql_read.specs.Versioned.{IsReferencedIn}
use Rattle.ob_sql_read.proofs.commands.filed_rows.Given as goal

-- the rows so far were those of the commands so far, under numbers that rise up to the last
abbrev pub invariant-commands : goal.invariant-commands
invariant-commands g l =
    let old = state g.S.Store l.fn.rows.conn.now in
    let now = state g.S.Store l.rows.conn.now in
    (l.rows.conn.ghost_name ≡ l.fn.rows.conn.ghost_name) × Survives old now (λ _. ⊥) × (l.fn.rows.conn.now.in_transaction ≡ false → l.rows.conn.now.in_transaction ≡ false)
    × (length l.commands.items ≡ l.at)
    × (HasCleanDisk now → (IsTrue old.is_open → IsUnchanged old now))
    × AllByRecursion (IsReferencedIn l.version) (filed_of l.commands.items)
    × ((v : Version) (t : Tables) → KeepsIn v old t → KeepsIn v now t)
    × (pairs : List Numbered) × IsRead l.version l.commands.items l.last l.counted pairs
    × (HasCleanDisk now → IsTrue old.is_open → (v : Version) → old.now.schema ≡ schema_of v → HasGiven g.S.Store command_listing.text [] l.fn.rows.conn.now []
    → HasGiven g.S.Store command_listing.text [] l.rows.conn.now (rows_under l.version pairs))

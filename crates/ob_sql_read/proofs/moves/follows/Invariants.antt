use Rattle.std.proofs.Common.{◌≡◌, ◌≤◌, ◌+◌, List, [], ◌++◌, drop, IsTrue, false}
use Rattle.sqlite.specs.Order.{Row}
use Rattle.sqlite.specs.State.{HasCleanDisk, IsUnchanged, Survives}
use Rattle.sqlite.specs.Held.{state}
use Rattle.sqlite.specs.Given.{HasGiven}
use Rattle.ob_sql_rows.specs.Versions.{schema_of}
use Rattle.ob_sql_rows.specs.declared.version.Version.{Version}
use Rattle.ob_sql_rows.specs.Rows.{Tables}
use Rattle.ob_sql_write.specs.Keeps.{KeepsIn}
use Rattle.ob_sql_read.specs.Moves.{moved_listing}
use Rattle.ob_sql_read.proofs.Rowing.{leads, expected}
use Rattle.ob_sql_read.proofs.Searching.{left_searches}
use Rattle.ob_sql_read.proofs.moves.follows.Given as goal

-- what is left leads from here to where all commands lead, its rows are all but those that were given, and the searches so far
-- with those that are left are no more than all may be
abbrev pub invariant-commands : goal.invariant-commands
invariant-commands g l =
    let old = state g.S.Store l.fn.rows.conn.now in
    let now = state g.S.Store l.rows.conn.now in
    (l.rows.conn.ghost_name ≡ l.fn.rows.conn.ghost_name) × Survives old now (λ _. ⊥) × (l.fn.rows.conn.now.in_transaction ≡ false → l.rows.conn.now.in_transaction ≡ false)
    × (l.book.state.accepted ≡ l.fn.book.state.accepted + l.at)
    × (leads l.version l.book.state (drop l.at l.commands) ≡ leads l.version l.fn.book.state l.commands)
    × (l.fn.noted ≡ l.fn.book.state.network → l.noted ≡ l.book.state.network)
    × (HasCleanDisk now → (IsTrue old.is_open → IsUnchanged old now)
    × (IsTrue old.is_open → (v : Version) → old.now.schema ≡ schema_of v → HasGiven g.S.Store moved_listing.text [] l.fn.rows.conn.now []
    → (front : List Row) × HasGiven g.S.Store moved_listing.text [] l.rows.conn.now front × (front ++ expected l.book.state (l.at + 1) (drop l.at l.commands) ≡ expected l.fn.book.state 1 l.commands)))
    × ((v : Version) (t : Tables) → KeepsIn v old t → KeepsIn v now t)
    × (l.book.searches + left_searches g.T.Timeline.bound l.book.state (drop l.at l.commands)
    ≤ l.fn.book.searches + left_searches g.T.Timeline.bound l.fn.book.state l.commands)

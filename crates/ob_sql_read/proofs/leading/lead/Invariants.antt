use Rattle.std.proofs.Common.{◌≡◌, ◌≤◌, ◌+◌, drop}
use Rattle.ob_sql_rows.specs.declared.version.Version.TheVariants.{Two}
use Rattle.ob_sql_read.proofs.Rowing.{leads}
use Rattle.ob_sql_read.proofs.Searching.{left_searches}
use Rattle.ob_sql_read.proofs.leading.lead.Given as goal

-- what is left leads from here to where all commands lead, the network so far is noted, and the searches so far with those that
-- are left are no more than all may be
abbrev pub invariant-commands : goal.invariant-commands
invariant-commands g l =
    (leads Two l.book.state (drop l.at l.commands) ≡ leads Two l.fn.book.state l.commands)
    × (l.fn.noted ≡ l.fn.book.state.network → l.noted ≡ l.book.state.network)
    × (l.book.searches + left_searches g.T.Timeline.bound l.book.state (drop l.at l.commands)
    ≤ l.fn.book.searches + left_searches g.T.Timeline.bound l.fn.book.state l.commands)

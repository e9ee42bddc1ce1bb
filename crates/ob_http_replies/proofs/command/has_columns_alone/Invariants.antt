use Rattle.std.proofs.Common.{◌≡◌}
use Rattle.serde_json.specs.View.{members_view}
use Rattle.ob_http_replies.specs.JsonCommands.{are_columns}
use Rattle.ob_http_replies.proofs.command.has_columns_alone.Given as goal

-- the members so far are columns
abbrev pub invariant-loop-name : goal.invariant-loop-name
invariant-loop-name l = are_columns (members_view l.name-iterator) ≡ are_columns (members_view l.members.entries)

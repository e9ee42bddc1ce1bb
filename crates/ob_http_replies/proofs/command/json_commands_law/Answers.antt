use Rattle.ob_http_replies.proofs.Sayings.{one_saying}
use Rattle.ob_http_replies.proofs.command.json_commands_law.Goals as goal

pub returns : goal.returns
returns c = one_saying c.rows_law.ensures

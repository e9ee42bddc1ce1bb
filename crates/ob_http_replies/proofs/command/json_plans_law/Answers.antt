use Rattle.ob_http_replies.proofs.Sayings.{one_plan}
use Rattle.ob_http_replies.proofs.command.json_plans_law.Goals as goal

pub returns : goal.returns
returns c = one_plan c.rows_law.ensures

use Rattle.std.proofs.Common.{rules}
use Rattle.ob_http_requests.proofs.request.Request.path.Goals as goal

pub returns-in-Some : goal.returns-in-Some
returns-in-Some c = search rules

pub returns-in-Some-text : goal.returns-in-Some-text
returns-in-Some-text c = search rules

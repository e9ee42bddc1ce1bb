use Rattle.std.proofs.Common.{rules}
use Rattle.ob_http_requests.proofs.framing.find_body.Goals as goal

pub returns : goal.returns
returns c = search rules

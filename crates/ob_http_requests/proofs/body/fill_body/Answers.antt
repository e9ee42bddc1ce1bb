use Rattle.std.proofs.Common.{rules}
use Rattle.ob_http_requests.proofs.body.fill_body.Goals as goal

pub returns-then-count-eq0-clause-whole : goal.returns-then-count-eq0-clause-whole
returns-then-count-eq0-clause-whole g c = search rules

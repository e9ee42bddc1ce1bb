use Rattle.std.proofs.Common.{rules}
use Rattle.ob_http_requests.proofs.framing.hosts_fit.Goals as goal

pub returns-in-Absent : goal.returns-in-Absent
returns-in-Absent c = search rules

use Rattle.std.proofs.Common.{rules}
use Rattle.ob_stream.proofs.watched.Watched.into_parts.Goals as goal

pub returns-clause-failed : goal.returns-clause-failed
returns-clause-failed g c = search rules

use Rattle.std.proofs.Common.{rules}
use Rattle.ob_stream.proofs.watched.Watched.has_failed.Goals as goal

pub returns : goal.returns
returns g c = search rules

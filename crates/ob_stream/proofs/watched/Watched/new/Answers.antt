use Rattle.std.proofs.Common.{rules}
use Rattle.ob_stream.proofs.watched.Watched.new.Goals as goal

pub returns-clause-fresh : goal.returns-clause-fresh
returns-clause-fresh g c = search rules

use Rattle.std.proofs.Common.{rules}
use Rattle.ob_stream.proofs.stream.Retries.again.Goals as goal

pub returns-then-again-clause-counted : goal.returns-then-again-clause-counted
returns-then-again-clause-counted c = search rules

use Rattle.std.proofs.Common.{rules}
use Rattle.ob_stream.proofs.stream.Retries.new.Goals as goal

pub returns : goal.returns
returns c = search rules

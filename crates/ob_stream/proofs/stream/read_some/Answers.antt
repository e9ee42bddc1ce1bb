use Rattle.std.proofs.Common.{rules}
use Rattle.ob_stream.proofs.Counting.{ends_by_answer}
use Rattle.ob_stream.proofs.stream.read_some.Goals as goal

pub returns-in-Ok-clause-bytes : goal.returns-in-Ok-clause-bytes
returns-in-Ok-clause-bytes g c = search rules

pub returns-in-Ok-clause-tries : goal.returns-in-Ok-clause-tries
returns-in-Ok-clause-tries g c =
    ends_by_answer _ _ c.args.reader.now c.loop-count.reader c.read.new.self c.loop-count.invariant.1 c.in-Ok.count c.in-Ok.ensures.counts

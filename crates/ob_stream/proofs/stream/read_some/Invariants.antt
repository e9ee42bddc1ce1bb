-- An interrupted read consumes nothing and costs a retry.
use Rattle.std.proofs.Common.{◌≡◌, ◌+◌}
use Rattle.std.specs.Io.KnownBytes.{Keeps}
use Rattle.ob_stream.specs.Watching.{interruptions, watched_bytes}
use Rattle.ob_stream.specs.Streams.{retries_left}
use Rattle.ob_stream.proofs.stream.read_some.Given as goal

abbrev pub invariant-loop-count : goal.invariant-loop-count
invariant-loop-count g l = Keeps (watched_bytes g.R.Read.remaining l.fn.reader) (watched_bytes g.R.Read.remaining l.reader)
    × (interruptions l.reader + retries_left l.retries ≡ interruptions l.fn.reader + retries_left l.fn.retries)

abbrev pub decreases-loop-count : goal.decreases-loop-count
decreases-loop-count g l = retries_left l.retries

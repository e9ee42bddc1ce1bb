-- What was gathered so far is what was consumed.
use Rattle.std.proofs.Common.{◌-◌, ◌+◌, ◌≡◌, length}
use Rattle.std.specs.Io.KnownBytes.{Consumes}
use Rattle.ob_stream.specs.Retrying.{TriesAll}
use Rattle.ob_stream.specs.Streams.{retries_left}
use Rattle.ob_stream.specs.Watching.{watched_bytes}
use Rattle.ob_import.proofs.gather.gather.Given as goal

abbrev pub invariant-loop-chunk : goal.invariant-loop-chunk
invariant-loop-chunk g l = Consumes (watched_bytes g.R.Read.remaining l.fn.reader) (watched_bytes g.R.Read.remaining l.reader) l.bytes.items
    × (length l.chunk ≡ 4096) × TriesAll (retries_left l.fn.retries) (retries_left l.retries) l.fn.reader l.reader

abbrev pub decreases-loop-chunk : goal.decreases-loop-chunk
decreases-loop-chunk g l = l.limit + 1 - length l.bytes.items

-- The text so far is what was consumed, and keeps to the limit.
use Rattle.std.proofs.Common.{◌-◌, ◌≤◌, length}
use Rattle.std.specs.Io.KnownBytes.{Consumes}
use Rattle.ob_stream.specs.Retrying.{TriesAll}
use Rattle.ob_stream.specs.Streams.{retries_left}
use Rattle.ob_stream.specs.Watching.{watched_bytes}
use Rattle.ob_stream.proofs.stream.read_text.Given as goal

abbrev pub invariant-loop-text : goal.invariant-loop-text
invariant-loop-text g l = Consumes (watched_bytes g.R.Read.remaining l.fn.reader) (watched_bytes g.R.Read.remaining l.reader) l.text.items
    × (length l.text.items ≤ l.limit)
    × TriesAll (retries_left l.fn.retries) (retries_left l.retries) l.fn.reader l.reader

abbrev pub decreases-loop-text : goal.decreases-loop-text
decreases-loop-text g l = l.limit - length l.text.items

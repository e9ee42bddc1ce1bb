-- What is written so far is the front of the text.
use Rattle.std.proofs.Common.{◌≡◌, ◌+◌, ◌-◌, ◌≤◌, length, take}
use Rattle.std.specs.Io.KnownBytes.{Appends}
use Rattle.ob_stream.specs.Retrying.{EndsUninterrupted}
use Rattle.ob_stream.specs.Watching.{interruptions, watched_bytes}
use Rattle.ob_stream.specs.Streams.{retries_left}
use Rattle.ob_stream.proofs.stream.write_text.Given as goal

abbrev pub invariant-loop-at : goal.invariant-loop-at
invariant-loop-at g l = (l.at ≤ length l.text)
    × Appends (watched_bytes g.W.Write.contents l.fn.writer) (watched_bytes g.W.Write.contents l.writer) (take l.at l.text)
    × (interruptions l.writer + retries_left l.retries ≡ interruptions l.fn.writer + retries_left l.fn.retries)
    × (length l.text ≤ l.at → EndsUninterrupted l.fn.writer l.writer)

abbrev pub decreases-loop-at : goal.decreases-loop-at
decreases-loop-at g l = (length l.text - l.at) + retries_left l.retries

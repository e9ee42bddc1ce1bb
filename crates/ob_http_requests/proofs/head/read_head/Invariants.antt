use Rattle.std.proofs.Common.{◌-◌, ◌≤◌, vec_len}
use Rattle.std.specs.Io.KnownBytes.{Keeps}
use Rattle.ob_stream.specs.Retrying.{TriesAll}
use Rattle.ob_stream.specs.Streams.{retries_left}
use Rattle.ob_stream.specs.Watching.{watched_bytes}
use Rattle.ob_http_requests.specs.Unread.{unread}
use Rattle.ob_http_requests.proofs.head.read_head.Given as goal

-- the stream's bytes stay, however many of them were read ahead
abbrev pub invariant-pieces : goal.invariant-pieces
invariant-pieces g l = record {
  same : Keeps (unread l.fn.ahead.items (watched_bytes g.R.Read.remaining l.fn.reader)) (unread l.ahead.items (watched_bytes g.R.Read.remaining l.reader));
  bound : vec_len l.ahead ≤ 16384;
  tries : TriesAll (retries_left l.fn.retries) (retries_left l.retries) l.fn.reader l.reader;
}

abbrev pub decreases-pieces : goal.decreases-pieces
decreases-pieces g l = 16384 - vec_len l.ahead

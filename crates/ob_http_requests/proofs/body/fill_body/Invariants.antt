use Rattle.std.proofs.Common.{◌≡◌, ◌-◌, ◌≤◌, length, vec_len}
use Rattle.ob_stream.specs.Retrying.{TriesAll}
use Rattle.ob_stream.specs.Streams.{retries_left}
use Rattle.ob_stream.specs.Watching.{watched_bytes}
use Rattle.ob_http_requests.specs.Unread.{ReadsMore}
use Rattle.ob_http_requests.proofs.body.fill_body.Given as goal

-- what the body has more was read
abbrev pub invariant-pieces : goal.invariant-pieces
invariant-pieces g l = record {
  more : ReadsMore (watched_bytes g.R.Read.remaining l.fn.reader) (watched_bytes g.R.Read.remaining l.reader) l.fn.body.items l.body.items;
  bound : vec_len l.body ≤ l.size;
  room : length l.piece ≡ 4096;
  tries : TriesAll (retries_left l.fn.retries) (retries_left l.retries) l.fn.reader l.reader;
}

abbrev pub decreases-pieces : goal.decreases-pieces
decreases-pieces g l = l.size - vec_len l.body

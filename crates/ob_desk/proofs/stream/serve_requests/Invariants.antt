-- The requests so far were answered, and after none of them the stream ends.
use Rattle.std.proofs.Common.{◌≤◌, None}
use Rattle.ob_stream.specs.Retrying.{BothTryAll}
use Rattle.ob_stream.specs.Streams.{retries_left}
use Rattle.ob_stream.specs.Watching.{watched_bytes}
use Rattle.ob_store.specs.Calls.{TellsFaults}
use Rattle.ob_http_requests.specs.Unread.{unread}
use Rattle.ob_desk.specs.Standing.{IsKept}
use Rattle.ob_desk.proofs.RunLemmas.{SoFar}
use Rattle.ob_desk.proofs.stream.serve_requests.Given as goal

abbrev pub invariant-requests : goal.invariant-requests
invariant-requests g l = record {
  run : SoFar (watched_bytes g.R.Read.remaining l.fn.reader) (unread l.ahead (watched_bytes g.R.Read.remaining l.reader))
      (watched_bytes g.W.Write.contents l.fn.writer) (watched_bytes g.W.Write.contents l.writer) l.fn.keeper l.keeper l.allowed;
  kept : IsKept l.fn.keeper l.keeper None;
  some : 1 ≤ l.allowed;
  most : l.allowed ≤ 1000;
  tells : TellsFaults l.fn.keeper l.keeper ⊥;
  tries : BothTryAll 65536 (retries_left l.retries) l.fn.reader l.reader l.fn.writer l.writer;
}

abbrev pub decreases-requests : goal.decreases-requests
decreases-requests g l = l.allowed

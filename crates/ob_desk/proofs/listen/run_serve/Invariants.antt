-- The streams so far have left the book to further commands.
use Rattle.std.proofs.Common.{◌≡◌, None, false}
use Rattle.ob_store.specs.Calls.{IfHeld, TellsFaults}
use Rattle.ob_desk.specs.Crashes.{IsLeft}
use Rattle.ob_desk.specs.Listening.{has_failed, streams_left}
use Rattle.ob_desk.specs.Standing.{IsKept}
use Rattle.ob_desk.proofs.ListenLemmas.{SoFar}
use Rattle.ob_desk.proofs.listen.run_serve.Given as goal

abbrev pub invariant-serving : goal.invariant-serving
invariant-serving g l = record {
  kept : IsKept l.fn.keeper l.keeper None;
  left : IfHeld l.fn.keeper l.keeper (λ b. IsLeft l.keeper b None);
  served : SoFar g.L.FaultLog.tells l.fn.keeper l.keeper l.fn.log l.log (streams_left l.fn.listener) (streams_left l.listener);
  well : has_failed l.fn.listener ≡ false → has_failed l.listener ≡ false;
  tells : TellsFaults l.fn.keeper l.keeper ⊥;
}

abbrev pub decreases-serving : goal.decreases-serving
decreases-serving g l = streams_left l.listener

use Rattle.std.proofs.Common.{None, arith, refl, subst, sym}
use Rattle.std.proofs.lemmas.Result.{err_from_is_err_and}
use Rattle.ob_store.proofs.Faults.{tells_nothing}
use Rattle.ob_stream.specs.Retrying.{BothTryAll}
use Rattle.ob_stream.specs.Streams.{retries_left}
use Rattle.ob_stream.proofs.Trying.{both_none, both_then, both_then_all}
use Rattle.ob_desk.proofs.FaultLemmas.{ok-no-store, run-tells, same-err}
use Rattle.ob_desk.proofs.RunLemmas.{run-closed, run-ended, run-fails, run-goes, run-refused, run-starts}
use Rattle.ob_desk.proofs.StandLemmas.{kept-none, kept-then}
use Rattle.ob_desk.proofs.stream.serve_requests.Goals as goal

pub requests-init : goal.requests-init
requests-init g c = record {
  run = rw c.requires (run-starts _ _ c.args.keeper.now);
  kept = kept-none c.args.keeper.now;
  some = omega arith;
  most = omega arith;
  tells = tells_nothing c.args.keeper.now c.args.keeper.now ⊥ refl (λ e. e);
  tries = subst (λ n. BothTryAll 65536 n c.args.reader.now c.args.reader.now c.args.writer.now c.args.writer.now) (sym c.new-retries.ensures)
      (both_none 65536 c.args.reader.now c.args.writer.now);
}

pub returns-in_err-serve_turn-clause-fails : goal.returns-in_err-serve_turn-clause-fails
returns-in_err-serve_turn-clause-fails g c =
    let p = err_from_is_err_and c.from_residual.result c.from_residual.ensures.1 in
    rw (p.1, p.2)
    (run-fails _ _ _ _ _ _ c.serve_turn.new.reader c.serve_turn.new.writer c.args.keeper.now c.requests.keeper c.serve_turn.new.keeper c.requests.allowed c.in_err-serve_turn.field-0.0
    c.in_err-serve_turn.ensures.kept.clean c.requests.invariant.kept c.requests.invariant.run c.in_err-serve_turn.ensures.fails)

pub returns-in-Closed-clause-serves : goal.returns-in-Closed-clause-serves
returns-in-Closed-clause-serves g c =
    run-closed _ _ None _ _ _ c.args.keeper.now c.requests.keeper c.serve_turn.new.keeper c.requests.allowed c.requests.invariant.run
    (rw c.in-Closed.is at c.in_ok-serve_turn.ensures.turn)

pub returns-in-Refused-clause-serves : goal.returns-in-Refused-clause-serves
returns-in-Refused-clause-serves g c =
    run-refused _ _ None _ _ _ c.args.keeper.now c.requests.keeper c.serve_turn.new.keeper c.requests.allowed c.requests.invariant.run
    (rw c.in-Refused.is at c.in_ok-serve_turn.ensures.turn)

pub returns-then-ends-clause-serves : goal.returns-then-ends-clause-serves
returns-then-ends-clause-serves g c =
    run-ended _ _ _ _ _ _ c.args.keeper.now c.requests.keeper c.serve_turn.new.keeper c.requests.allowed c.in-Answered.ends c.in_ok-serve_turn.ensures.kept.clean c.if-ends.true
    c.requests.invariant.run (rw c.in-Answered.is at c.in_ok-serve_turn.ensures.turn)

pub requests-preserved : goal.requests-preserved
requests-preserved g c =
    let run = run-goes _ _ _ _ _ _ c.args.keeper.now c.requests.keeper c.serve_turn.new.keeper c.requests.allowed c.in-Answered.ends c.in_ok-serve_turn.ensures.kept.clean c.if-ends.false
    c.requests.invariant.run (rw c.in-Answered.is at c.in_ok-serve_turn.ensures.turn) in record {
      run = run;
      kept = kept-then c.args.keeper.now c.requests.keeper c.serve_turn.new.keeper None c.requests.invariant.kept c.in_ok-serve_turn.ensures.kept;
      some = run.some;
      most = omega (arith, c.requests.invariant.most);
      tells = run-tells _ _ _ _ c.args.keeper.now c.requests.keeper c.serve_turn.new.keeper c.requests.allowed _ ⊥ (λ e. absurd e) c.requests.invariant.run c.requests.invariant.tells
          c.in_ok-serve_turn.ensures.tells;
      tries = both_then_all c.requests.invariant.tries c.in_ok-serve_turn.ensures.tries;
    }

pub returns-in-Closed-clause-tells : goal.returns-in-Closed-clause-tells
returns-in-Closed-clause-tells g c =
    run-tells _ _ _ _ c.args.keeper.now c.requests.keeper c.serve_turn.new.keeper c.requests.allowed _ _ (λ e. absurd (ok-no-store _ e)) c.requests.invariant.run c.requests.invariant.tells
    c.in_ok-serve_turn.ensures.tells

pub returns-in-Refused-clause-tells : goal.returns-in-Refused-clause-tells
returns-in-Refused-clause-tells g c =
    run-tells _ _ _ _ c.args.keeper.now c.requests.keeper c.serve_turn.new.keeper c.requests.allowed _ _ (λ e. absurd (ok-no-store _ e)) c.requests.invariant.run c.requests.invariant.tells
    c.in_ok-serve_turn.ensures.tells

pub returns-then-ends-clause-tells : goal.returns-then-ends-clause-tells
returns-then-ends-clause-tells g c =
    run-tells _ _ _ _ c.args.keeper.now c.requests.keeper c.serve_turn.new.keeper c.requests.allowed _ _ (λ e. absurd (ok-no-store _ e)) c.requests.invariant.run c.requests.invariant.tells
    c.in_ok-serve_turn.ensures.tells

pub returns-in_err-serve_turn-clause-tells : goal.returns-in_err-serve_turn-clause-tells
returns-in_err-serve_turn-clause-tells g c =
    let p = err_from_is_err_and c.from_residual.result c.from_residual.ensures.1 in
    rw (p.1, p.2)
    (run-tells _ _ _ _ c.args.keeper.now c.requests.keeper c.serve_turn.new.keeper c.requests.allowed _ _ (same-err c.in_err-serve_turn.field-0.0) c.requests.invariant.run
    c.requests.invariant.tells c.in_err-serve_turn.ensures.tells)

pub returns-in-Closed-clause-tries : goal.returns-in-Closed-clause-tries
returns-in-Closed-clause-tries g c = (retries_left c.serve_turn.new.retries, both_then_all c.requests.invariant.tries c.in_ok-serve_turn.ensures.tries)

pub returns-in-Refused-clause-tries : goal.returns-in-Refused-clause-tries
returns-in-Refused-clause-tries g c = (retries_left c.serve_turn.new.retries, both_then_all c.requests.invariant.tries c.in_ok-serve_turn.ensures.tries)

pub returns-then-ends-clause-tries : goal.returns-then-ends-clause-tries
returns-then-ends-clause-tries g c = (retries_left c.serve_turn.new.retries, both_then_all c.requests.invariant.tries c.in_ok-serve_turn.ensures.tries)

pub returns-in_err-serve_turn-clause-tries : goal.returns-in_err-serve_turn-clause-tries
returns-in_err-serve_turn-clause-tries g c =
    let p = err_from_is_err_and c.from_residual.result c.from_residual.ensures.1 in
    rw p.1 (retries_left c.serve_turn.new.retries, both_then c.requests.invariant.tries c.in_err-serve_turn.ensures.tries)

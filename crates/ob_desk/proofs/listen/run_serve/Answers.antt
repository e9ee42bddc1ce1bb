use Rattle.std.proofs.Common.{[], None, Some, Err, refl, sym, ◌∙◌}
use Rattle.ob_store.proofs.Faults.{tells_as, tells_nothing}
use Rattle.ob_desk.specs.Listening.{streams_left}
use Rattle.ob_desk.proofs.FaultLemmas.{desk-tells, ended-by-store, listener-no-store, served-no-store}
use Rattle.ob_desk.proofs.ListenLemmas.{ended, goes, kept-on, leaves-ended, leaves-on, left-more, left-on, starts, streamed, streamed-on}
use Rattle.ob_desk.proofs.StandLemmas.{kept-none, kept-then}
use Rattle.ob_desk.proofs.listen.run_serve.Goals.{in-Ok, in-Err+in-None}
use Rattle.ob_desk.proofs.listen.run_serve.Goals as goal

pub returns-in_default-clause-keeper : goal.returns-in_default-clause-keeper
returns-in_default-clause-keeper g c =
    leaves-on c.args.keeper.now c.serving.keeper _ refl c.serving.invariant.kept c.serving.invariant.left

pub returns-clause-keeper : goal.returns-clause-keeper
returns-clause-keeper g c =
    leaves-on c.args.keeper.now c.serving.keeper _ refl c.serving.invariant.kept c.serving.invariant.left

pub returns-in-Some-desk_end-clause-keeper : goal.returns-in-Some-desk_end-clause-keeper
returns-in-Some-desk_end-clause-keeper g c =
    let at = c.serving.keeper in
    let new = c.serve_connection.new.keeper in
    let one = c.in-Err.ensures in
    leaves-ended c.args.keeper.now at new c.in-Err.fault c.in-Some-desk_end.end (sym c.desk_end.ensures ∙ c.in-Some-desk_end.is)
    c.serving.invariant.kept c.serving.invariant.left (streamed at new c.in-Err.fault one.kept one.reopen one.left)

pub returns-in-Some-desk_end-clause-served : goal.returns-in-Some-desk_end-clause-served
returns-in-Some-desk_end-clause-served g c =
    let at = c.serving.keeper in
    let new = c.serve_connection.new.keeper in
    let one = c.in-Err.ensures in
    ended g.L.FaultLog.tells c.args.keeper.now at new c.args.log.now c.serving.log (streams_left c.args.listener.now) (streams_left c.serving.listener) (streams_left c.take.new.self)
    c.in-Err.fault c.in-Some-desk_end.end (sym c.desk_end.ensures ∙ c.in-Some-desk_end.is) c.in-Some.ensures.0 c.serving.invariant.served
    (streamed at new c.in-Err.fault one.kept one.reopen one.left)

pub serving-init : goal.serving-init
serving-init g c = record {
  kept = kept-none c.args.keeper.now;
  left = λ disk b ties some. ([], ties);
  served = starts g.L.FaultLog.tells c.args.keeper.now c.args.log.now (streams_left c.args.listener.now);
  well = λ fresh. fresh;
  tells = tells_nothing c.args.keeper.now c.args.keeper.now ⊥ refl (λ e. e);
}

pub serving-preserved : goal.serving-preserved
serving-preserved g c =
    let was = c.args.keeper.now in
    let at = c.serving.keeper in
    let new = c.serve_connection.new.keeper in
    let so-far = c.serving.invariant in
    let more = goes g.L.FaultLog.tells was at new c.args.log.now c.serving.log in
    elim c.match-serve_connection.branch [
      | in-Ok w ↦
          let one = w.in-Ok.ensures in record {
            kept = kept-then was at new None so-far.kept one.kept;
            left = left-more was at new None so-far.kept one.kept so-far.left one.left;
            served = rw w.log-is (more c.serving.log (streams_left c.args.listener.now) (streams_left c.serving.listener) (streams_left c.take.new.self) None c.in-Some.ensures.0 so-far.served
                (streamed-on at new one.kept one.left, refl));
            well = λ fresh. c.in-Some.ensures.1;
            tells = desk-tells was at new _ ⊥ (λ e. absurd e) so-far.kept so-far.left so-far.tells one.tells;
          }
      | in-Err+in-None w ↦
          let one = w.in-Err.ensures in
          let fault = w.in-Err.fault in
          let on = sym w.desk_end.ensures ∙ w.in-None.is in
          let kept = kept-on at new fault on one.kept in record {
            kept = kept-then was at new None so-far.kept kept;
            left = left-more was at new None so-far.kept kept so-far.left (λ disk b ties some. left-on new b fault on (one.left disk b ties some));
            served = rw w.log-is (more w.tell.new.self (streams_left c.args.listener.now) (streams_left c.serving.listener) (streams_left c.take.new.self) (Some fault) c.in-Some.ensures.0 so-far.served
                (streamed at new fault one.kept one.reopen one.left, on, w.tell.ensures));
            well = λ fresh. c.in-Some.ensures.1;
            tells = desk-tells was at new _ ⊥ (λ e. absurd e) so-far.kept so-far.left so-far.tells one.tells;
          }
    ]

pub returns-in_default-clause-tells : goal.returns-in_default-clause-tells
returns-in_default-clause-tells g c = tells_as c.args.keeper.now c.serving.keeper ⊥ _ listener-no-store c.serving.invariant.tells

pub returns-clause-tells : goal.returns-clause-tells
returns-clause-tells g c = tells_as c.args.keeper.now c.serving.keeper ⊥ _ (served-no-store tt) c.serving.invariant.tells

pub returns-in-Some-desk_end-clause-tells : goal.returns-in-Some-desk_end-clause-tells
returns-in-Some-desk_end-clause-tells g c =
    let at = c.serving.keeper in
    let new = c.serve_connection.new.keeper in
    desk-tells c.args.keeper.now at new _ _ (ended-by-store c.in-Err.fault c.in-Some-desk_end.end (sym c.desk_end.ensures ∙ c.in-Some-desk_end.is))
    c.serving.invariant.kept c.serving.invariant.left c.serving.invariant.tells c.in-Err.ensures.tells

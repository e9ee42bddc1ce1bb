use Rattle.std.proofs.Common.{None, inl, refl}
use Rattle.std.proofs.lemmas.Result.{err_from_is_err_and}
use Rattle.ob_http_replies.specs.declared.reply.MediaType.TheVariants.{Json}
use Rattle.ob_http_requests.specs.Reading.{message_of}
use Rattle.ob_store.proofs.Faults.{tells_as, tells_nothing}
use Rattle.ob_stream.proofs.Trying.{both_then, both_then_all, by_writer, by_writer_or}
use Rattle.ob_desk.proofs.FaultLemmas.{input-no-store, ok-no-store, output-no-loss, same-err, unread-no-store}
use Rattle.ob_desk.proofs.TurnLemmas.{turn-answered, turn-cut, turn-stops, turn-unanswered, turn-unrefused}
use Rattle.ob_desk.proofs.turn.serve_turn.Goals as goal

pub returns-in_err-read_request-clause-fails : goal.returns-in_err-read_request-clause-fails
returns-in_err-read_request-clause-fails g c =
    let p = err_from_is_err_and c.from_residual.result c.from_residual.ensures.1 in
    rw (p.1, p.2)
    (turn-stops c.args.allowed _ _ _ _ c.read_request.new.reader c.read_request.new.writer c.args.keeper.now c.in_err-read_request.field-0.0 c.in_err-read_request.ensures.fault)

pub returns-in_err-write_text-in-Refused-clause-fails : goal.returns-in_err-write_text-in-Refused-clause-fails
returns-in_err-write_text-in-Refused-clause-fails g c =
    let p = err_from_is_err_and c.from_residual-in_err-write_text-in-Refused.result c.from_residual-in_err-write_text-in-Refused.ensures.1 in
    let reads = rw c.in-Refused.is at c.in_ok-read_request.ensures.next in
    let front = rw (c.empty_reply.ensures Json, c.head_status.ensures) at c.in_err-write_text-in-Refused.ensures.front in
    rw (p.1, p.2, c.in_err-write_text-in-Refused.ensures.fault.0)
    (turn-unrefused c.args.allowed _ _ _ _ _ c.read_request.new.reader c.write_text.new.writer c.args.keeper.now c.in-Refused.refusal reads.0 reads.1 front
    c.in_err-write_text-in-Refused.ensures.fault.1)

pub returns-in_err-reply_to-in-Request-clause-fails : goal.returns-in_err-reply_to-in-Request-clause-fails
returns-in_err-reply_to-in-Request-clause-fails g c =
    let p = err_from_is_err_and c.from_residual-in_err-reply_to-in-Request.result c.from_residual-in_err-reply_to-in-Request.ensures.1 in
    let reads = rw c.in-Request.is at c.in_ok-read_request.ensures.next in
    rw (p.1, p.2)
    (turn-unanswered c.args.allowed _ _ _ _ _ _ c.read_request.new.reader c.reply_to.new.writer c.args.keeper.now c.reply_to.new.keeper (message_of c.in-Request.request)
    c.ends_stream-ends.result c.in_err-reply_to-in-Request.field-0.0 reads.0 reads.1 c.ends_stream-ends.ensures
    c.in_err-reply_to-in-Request.ensures.unanswered c.in_err-reply_to-in-Request.ensures.cause)

pub returns-in-Cut-clause-fails : goal.returns-in-Cut-clause-fails
returns-in-Cut-clause-fails g c =
    turn-cut c.args.allowed _ None _ _ _ c.read_request.new.reader c.read_request.new.writer c.args.keeper.now (rw c.in-Cut.is at c.in_ok-read_request.ensures.next)

pub returns-in_ok-reply_to-in-Request-clause-turn : goal.returns-in_ok-reply_to-in-Request-clause-turn
returns-in_ok-reply_to-in-Request-clause-turn g c =
    let reads = rw c.in-Request.is at c.in_ok-read_request.ensures.next in
    turn-answered c.args.allowed _ _ _ _ _ c.args.keeper.now c.reply_to.new.keeper (message_of c.in-Request.request) c.ends_stream-ends.result
    reads.0 reads.1 c.ends_stream-ends.ensures c.in_ok-reply_to-in-Request.ensures.answered

pub returns-in_err-read_request-clause-tells : goal.returns-in_err-read_request-clause-tells
returns-in_err-read_request-clause-tells g c =
    let p = err_from_is_err_and c.from_residual.result c.from_residual.ensures.1 in
    rw (p.1, p.2)
    (tells_nothing c.args.keeper.now c.args.keeper.now _ refl
    (unread-no-store _ _ _ _ c.read_request.new.reader c.read_request.new.writer c.in_err-read_request.field-0.0 c.in_err-read_request.ensures.fault))

pub returns-in-End-clause-tells : goal.returns-in-End-clause-tells
returns-in-End-clause-tells g c = tells_nothing c.args.keeper.now c.args.keeper.now _ refl (ok-no-store _)

pub returns-in-Cut-clause-tells : goal.returns-in-Cut-clause-tells
returns-in-Cut-clause-tells g c = tells_nothing c.args.keeper.now c.args.keeper.now _ refl input-no-store

pub returns-in_err-write_text-in-Refused-clause-tells : goal.returns-in_err-write_text-in-Refused-clause-tells
returns-in_err-write_text-in-Refused-clause-tells g c =
    let p = err_from_is_err_and c.from_residual-in_err-write_text-in-Refused.result c.from_residual-in_err-write_text-in-Refused.ensures.1 in
    rw (p.1, p.2, c.in_err-write_text-in-Refused.ensures.fault.0) (tells_nothing c.args.keeper.now c.args.keeper.now _ refl output-no-loss)

pub returns-in_ok-write_text-in-Refused-clause-tells : goal.returns-in_ok-write_text-in-Refused-clause-tells
returns-in_ok-write_text-in-Refused-clause-tells g c = tells_nothing c.args.keeper.now c.args.keeper.now _ refl (ok-no-store _)

pub returns-in_err-reply_to-in-Request-clause-tells : goal.returns-in_err-reply_to-in-Request-clause-tells
returns-in_err-reply_to-in-Request-clause-tells g c =
    let p = err_from_is_err_and c.from_residual-in_err-reply_to-in-Request.result c.from_residual-in_err-reply_to-in-Request.ensures.1 in
    rw (p.1, p.2)
    (tells_as c.args.keeper.now c.reply_to.new.keeper _ _ (same-err c.in_err-reply_to-in-Request.field-0.0) c.in_err-reply_to-in-Request.ensures.tells)

pub returns-in_ok-reply_to-in-Request-clause-tells : goal.returns-in_ok-reply_to-in-Request-clause-tells
returns-in_ok-reply_to-in-Request-clause-tells g c =
    tells_as c.args.keeper.now c.reply_to.new.keeper _ _ (λ e. absurd (ok-no-store _ e)) c.in_ok-reply_to-in-Request.ensures.tells

pub returns-in_err-read_request-clause-tries : goal.returns-in_err-read_request-clause-tries
returns-in_err-read_request-clause-tries g c =
    let p = err_from_is_err_and c.from_residual.result c.from_residual.ensures.1 in
    rw p.1 c.in_err-read_request.ensures.tries

pub returns-in-End-clause-tries : goal.returns-in-End-clause-tries
returns-in-End-clause-tries g c = c.in_ok-read_request.ensures.tries

pub returns-in-Cut-clause-tries : goal.returns-in-Cut-clause-tries
returns-in-Cut-clause-tries g c = inl c.in_ok-read_request.ensures.tries

pub returns-in_err-write_text-in-Refused-clause-tries : goal.returns-in_err-write_text-in-Refused-clause-tries
returns-in_err-write_text-in-Refused-clause-tries g c =
    let p = err_from_is_err_and c.from_residual-in_err-write_text-in-Refused.result c.from_residual-in_err-write_text-in-Refused.ensures.1 in
    rw p.1 (both_then c.in_ok-read_request.ensures.tries (by_writer_or c.read_request.new.reader c.in_err-write_text-in-Refused.ensures.tries))

pub returns-in_ok-write_text-in-Refused-clause-tries : goal.returns-in_ok-write_text-in-Refused-clause-tries
returns-in_ok-write_text-in-Refused-clause-tries g c =
    both_then_all c.in_ok-read_request.ensures.tries (by_writer c.read_request.new.reader c.in_ok-write_text-in-Refused.ensures.tries)

pub returns-in_err-reply_to-in-Request-clause-tries : goal.returns-in_err-reply_to-in-Request-clause-tries
returns-in_err-reply_to-in-Request-clause-tries g c =
    let p = err_from_is_err_and c.from_residual-in_err-reply_to-in-Request.result c.from_residual-in_err-reply_to-in-Request.ensures.1 in
    rw p.1 (both_then c.in_ok-read_request.ensures.tries (by_writer_or c.read_request.new.reader c.in_err-reply_to-in-Request.ensures.tries))

pub returns-in_ok-reply_to-in-Request-clause-tries : goal.returns-in_ok-reply_to-in-Request-clause-tries
returns-in_ok-reply_to-in-Request-clause-tries g c =
    both_then_all c.in_ok-read_request.ensures.tries (by_writer c.read_request.new.reader c.in_ok-reply_to-in-Request.ensures.tries)

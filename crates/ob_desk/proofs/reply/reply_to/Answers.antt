use Rattle.std.proofs.Common.{Ok}
use Rattle.ob_http_requests.specs.Reading.{message_of}
use Rattle.ob_http_replies.specs.declared.reply.MediaType.TheVariants.{Json}
use Rattle.ob_store.proofs.Faults.{tells_as}
use Rattle.ob_stream.proofs.Trying.{tries_any}
use Rattle.ob_desk.proofs.FaultLemmas.{same-err, written-no-store}
use Rattle.ob_desk.proofs.AnswerLemmas.{answer-cause, as-written, unanswered, written-answered, written-cause, written-less}
use Rattle.ob_desk.proofs.StandLemmas.{kept-by, still-some}
use Rattle.ob_desk.proofs.reply.reply_to.Goals as goal

pub returns-in-Ok-clause-answered : goal.returns-in-Ok-clause-answered
returns-in-Ok-clause-answered g c =
    let called = c.in-Ok.ensures in
    let still = still-some c.args.keeper.now c.answer.new.keeper (kept-by c.args.keeper.now c.answer.new.keeper (Ok c.in-Ok.text) _ called.clean called.unopened called.dropped) in
    written-answered c.write_text.result _ _ c.args.keeper.now c.answer.new.keeper (message_of c.args.request.now) c.args.ends c.in-Ok.text
    called.unopened still called.answered (rw c.bytes.ensures at c.write_text.ensures.whole)

pub returns-in-Ok-clause-unanswered : goal.returns-in-Ok-clause-unanswered
returns-in-Ok-clause-unanswered g c =
    let called = c.in-Ok.ensures in
    let still = still-some c.args.keeper.now c.answer.new.keeper (kept-by c.args.keeper.now c.answer.new.keeper (Ok c.in-Ok.text) _ called.clean called.unopened called.dropped) in
    written-less c.write_text.result c.write_text.new.writer _ _ c.args.keeper.now c.answer.new.keeper (message_of c.args.request.now) c.args.ends c.in-Ok.text
    called.unopened still called.answered (rw c.bytes.ensures at c.write_text.ensures.front) c.write_text.ensures.fault

pub returns-in-Ok-clause-cause : goal.returns-in-Ok-clause-cause
returns-in-Ok-clause-cause g c = written-cause c.write_text.result c.write_text.new.writer c.args.keeper.now c.write_text.ensures.fault

pub returns-in-Err-clause-unanswered : goal.returns-in-Err-clause-unanswered
returns-in-Err-clause-unanswered g c =
    let called = c.in-Err.ensures in
    unanswered c.write_text-in-Err.new.writer _ _ c.args.keeper.now c.answer.new.keeper (message_of c.args.request.now) c.args.ends c.in-Err.fault
    called.unopened called.faults called.answered
    (as-written c.write_text-in-Err.result c.write_text-in-Err.new.writer _ _ _ (rw (c.empty_reply.ensures Json) at c.write_text-in-Err.ensures.whole)
    (rw (c.empty_reply.ensures Json) at c.write_text-in-Err.ensures.front) c.write_text-in-Err.ensures.fault)

pub returns-in-Err-clause-cause : goal.returns-in-Err-clause-cause
returns-in-Err-clause-cause g c =
    let called = c.in-Err.ensures in
    answer-cause c.write_text-in-Err.new.writer c.args.keeper.now c.answer.new.keeper (message_of c.args.request.now) c.args.ends c.in-Err.fault called.unopened called.faults

pub returns-in-Ok-clause-tells : goal.returns-in-Ok-clause-tells
returns-in-Ok-clause-tells g c =
    tells_as c.args.keeper.now c.answer.new.keeper _ _ (λ e. absurd (written-no-store c.write_text.result c.write_text.new.writer c.write_text.ensures.fault e)) c.in-Ok.ensures.tells

pub returns-in-Err-clause-tells : goal.returns-in-Err-clause-tells
returns-in-Err-clause-tells g c = tells_as c.args.keeper.now c.answer.new.keeper _ _ (same-err c.in-Err.fault) c.in-Err.ensures.tells

pub returns-in-Ok-clause-tries : goal.returns-in-Ok-clause-tries
returns-in-Ok-clause-tries g c = c.write_text.ensures.tries

pub returns-in-Err-clause-tries : goal.returns-in-Err-clause-tries
returns-in-Err-clause-tries g c = tries_any c.write_text-in-Err.result c.write_text-in-Err.ensures.tries

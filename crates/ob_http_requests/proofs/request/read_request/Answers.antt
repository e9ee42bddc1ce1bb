use Rattle.std.proofs.Common.{rules}
use Rattle.std.proofs.lemmas.Result.{err_from_is_err_and}
use Rattle.ob_stream.proofs.Trying.{both_then, both_then_all, by_reader, by_reader_or, by_writer, by_writer_or}
use Rattle.ob_http_requests.proofs.request.read_request.Goals as goal

pub returns-in-Some-clause-next : goal.returns-in-Some-clause-next
returns-in-Some-clause-next g c = search rules

pub returns-in-None-clause-next : goal.returns-in-None-clause-next
returns-in-None-clause-next g c = search rules

pub returns-in_err-write_interim-clause-fault : goal.returns-in_err-write_interim-clause-fault
returns-in_err-write_interim-clause-fault g c = search rules

pub returns-in_err-body-clause-fault : goal.returns-in_err-body-clause-fault
returns-in_err-body-clause-fault g c = search rules

-- ---- the retries
pub returns-in-Refused-clause-tries : goal.returns-in-Refused-clause-tries
returns-in-Refused-clause-tries g c = by_reader c.args.writer.now c.in_ok-framing.ensures.tries

pub returns-in-End-clause-tries : goal.returns-in-End-clause-tries
returns-in-End-clause-tries g c = by_reader c.args.writer.now c.in_ok-framing.ensures.tries

pub returns-in-Cut-clause-tries : goal.returns-in-Cut-clause-tries
returns-in-Cut-clause-tries g c = by_reader c.args.writer.now c.in_ok-framing.ensures.tries

pub returns-in_err-write_interim-clause-tries : goal.returns-in_err-write_interim-clause-tries
returns-in_err-write_interim-clause-tries g c =
    let p = err_from_is_err_and c.from_residual-in_err-write_interim.result c.from_residual-in_err-write_interim.ensures.1 in
    rw p.1 (both_then (by_reader c.args.writer.now c.in_ok-framing.ensures.tries) (by_writer_or c.read_start.new.reader c.in_err-write_interim.ensures.tries))

pub returns-in_err-body-clause-tries : goal.returns-in_err-body-clause-tries
returns-in_err-body-clause-tries g c =
    let p = err_from_is_err_and c.from_residual-in_err-body.result c.from_residual-in_err-body.ensures.1 in
    let before = both_then_all (by_reader c.args.writer.now c.in_ok-framing.ensures.tries) (by_writer c.read_start.new.reader c.in_ok-write_interim.ensures.tries) in
    rw p.1 (both_then before (by_reader_or c.write_interim.new.writer c.in_err-body.ensures.tries))

pub returns-in-Some-clause-tries : goal.returns-in-Some-clause-tries
returns-in-Some-clause-tries g c =
    let before = both_then_all (by_reader c.args.writer.now c.in_ok-framing.ensures.tries) (by_writer c.read_start.new.reader c.in_ok-write_interim.ensures.tries) in
    both_then_all before (by_reader c.write_interim.new.writer c.in_ok-body.ensures.tries)

pub returns-in-None-clause-tries : goal.returns-in-None-clause-tries
returns-in-None-clause-tries g c =
    let before = both_then_all (by_reader c.args.writer.now c.in_ok-framing.ensures.tries) (by_writer c.read_start.new.reader c.in_ok-write_interim.ensures.tries) in
    both_then_all before (by_reader c.write_interim.new.writer c.in_ok-body.ensures.tries)

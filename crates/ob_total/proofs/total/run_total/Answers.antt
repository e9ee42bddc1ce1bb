-- The line is written with the retries that the reading of the text left.
use Rattle.std.proofs.Common.{inl}
use Rattle.std.proofs.lemmas.Result.{err_from_is_err_and}
use Rattle.ob_stream.specs.Streams.{retries_left}
use Rattle.ob_stream.proofs.Trying.{both_then, both_then_all, by_reader, by_reader_or, by_writer, by_writer_or}
use Rattle.ob_total.proofs.total.run_total.Goals as goal

pub returns-in-Err-clause-tries : goal.returns-in-Err-clause-tries
returns-in-Err-clause-tries g c =
    (retries_left c.read_text.new.retries, by_reader_or c.args.writer.now (rw c.new-retries.ensures at c.in-Err.ensures.tries))

pub returns-in_err-total-clause-tries : goal.returns-in_err-total-clause-tries
returns-in_err-total-clause-tries g c =
    let p = err_from_is_err_and c.from_residual.result c.from_residual.ensures.1 in
    rw p.1 (retries_left c.read_text.new.retries, inl (by_reader c.args.writer.now (rw c.new-retries.ensures at c.in-Ok.ensures.tries)))

pub returns-in-Err-line_of-clause-tries : goal.returns-in-Err-line_of-clause-tries
returns-in-Err-line_of-clause-tries g c =
    (retries_left c.read_text.new.retries, inl (by_reader c.args.writer.now (rw c.new-retries.ensures at c.in-Ok.ensures.tries)))

pub returns-in-Ok-write_text-clause-tries : goal.returns-in-Ok-write_text-clause-tries
returns-in-Ok-write_text-clause-tries g c =
    let before = by_reader c.args.writer.now (rw c.new-retries.ensures at c.in-Ok.ensures.tries) in
    (retries_left c.write_text.new.retries, both_then_all before (by_writer c.read_text.new.reader c.in-Ok-write_text.ensures.tries))

pub returns-clause-tries : goal.returns-clause-tries
returns-clause-tries g c =
    let before = by_reader c.args.writer.now (rw c.new-retries.ensures at c.in-Ok.ensures.tries) in
    (retries_left c.write_text.new.retries, both_then before (by_writer_or c.read_text.new.reader c.in-Err-write_text.ensures.tries))

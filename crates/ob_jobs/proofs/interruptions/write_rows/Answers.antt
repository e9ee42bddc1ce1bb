use Rattle.std.proofs.Common.{length, subst}
use Rattle.std.proofs.lemmas.Result.{err_from_is_err_and}
use Rattle.ob_stream.specs.Retrying.{TriesAll, TriesOrGivesUp}
use Rattle.ob_stream.specs.Streams.{retries_left}
use Rattle.ob_stream.specs.Watching.{watched_bytes}
use Rattle.ob_rows.specs.Rows.{interruption_rows}
use Rattle.ob_rows.specs.RowText.{row_header, row_lines}
use Rattle.ob_jobs.proofs.RowsWritten.{header_failed, headed}
use Rattle.ob_jobs.proofs.Written.{tries_then}
use Rattle.ob_jobs.proofs.interruptions.write_rows.Goals as goal

pub returns-in_err-write_text-clause-rows : goal.returns-in_err-write_text-clause-rows
returns-in_err-write_text-clause-rows g c =
    let p = err_from_is_err_and c.from_residual.result c.from_residual.ensures.1 in
    rw (p.1, p.2)
    (header_failed g.F.Write.contents c.args.book.now.state c.args.file.now c.write_text.new.writer c.in_err-write_text.field-0.0
    c.in_err-write_text.ensures.front c.in_err-write_text.ensures.fault)

pub returns-clause-rows : goal.returns-clause-rows
returns-clause-rows g c =
    let b = c.args.book.now.state in
    let rows = interruption_rows b in
    headed g.F.Write.contents (watched_bytes g.F.Write.contents c.args.file.now) (watched_bytes g.F.Write.contents c.write_text.new.writer)
    c.write_lines.new.file row_header (row_lines b rows) (length rows) c.write_lines.result c.in_ok-write_text.ensures.whole c.write_lines.ensures.rows

pub returns-in_err-write_text-clause-tries : goal.returns-in_err-write_text-clause-tries
returns-in_err-write_text-clause-tries g c =
    let p = err_from_is_err_and c.from_residual.result c.from_residual.ensures.1 in
    let left = retries_left c.write_text.new.retries in
    rw p.1 (left, subst (λ n. TriesOrGivesUp n left c.args.file.now c.write_text.new.writer) c.new-retries.ensures c.in_err-write_text.ensures.tries)

pub returns-clause-tries : goal.returns-clause-tries
returns-clause-tries g c =
    let it = c.write_lines.ensures.tries in
    let mid = c.write_text.new.writer in
    let headed = subst (λ n. TriesAll n (retries_left c.write_text.new.retries) c.args.file.now mid) c.new-retries.ensures c.in_ok-write_text.ensures.tries in
    (it.0, tries_then it.0 c.write_lines.new.file c.write_lines.result headed it.1)

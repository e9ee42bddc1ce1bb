use Rattle.std.proofs.Common.{◌≡◌, ◌∙◌, inl, length, subst, subst₂, rules}
use Rattle.std.proofs.lemmas.Result.{err_from_is_err_and}
use Rattle.ob_stream.specs.Retrying.{Tries}
use Rattle.ob_stream.specs.Streams.{retries_left}
use Rattle.ob_stream.specs.Watching.{watched_bytes}
use Rattle.ob_stream.proofs.Trying.{none_tried}
use Rattle.ob_rows.specs.Rows.{interruption_rows}
use Rattle.ob_rows.specs.RowText.{row_lines}
use Rattle.ob_jobs.specs.Rows.{WritesRows}
use Rattle.ob_jobs.proofs.RowsWritten.{no_room}
use Rattle.ob_jobs.proofs.interruptions.write_lines.Goals as goal

pub returns-in_err-gathered-clause-rows : goal.returns-in_err-gathered-clause-rows
returns-in_err-gathered-clause-rows g c =
    let p = err_from_is_err_and c.from_residual.result c.from_residual.ensures.1 in
    let rows = interruption_rows c.args.book.now.state in
    rw (p.1, p.2)
    (no_room g.F.Write.contents c.args.file.now (row_lines c.args.book.now.state rows) (length rows) c.in_err-gathered.field-0.0 c.in_err-gathered.ensures.memory)

pub returns-clause-rows : goal.returns-clause-rows
returns-clause-rows g c =
    let b = c.args.book.now.state in
    let rows = interruption_rows b in
    let end = c.write_rows.new.self in
    let name = c.write_rows.ensures.same_reference in
    let same : end.writer.now ≡ c.file-1.given.0 = search rules in
    subst₂ (λ v w. WritesRows g.F.Write.contents (watched_bytes g.F.Write.contents v) w (row_lines b rows) (length rows) c.write_rows.result)
    c.new-lines.ensures.writer same c.write_rows.ensures.rows

pub returns-in_err-gathered-clause-tries : goal.returns-in_err-gathered-clause-tries
returns-in_err-gathered-clause-tries g c =
    let p = err_from_is_err_and c.from_residual.result c.from_residual.ensures.1 in
    rw p.1 (retries_left c.args.retries, inl (none_tried (retries_left c.args.retries) c.args.file.now))

pub returns-clause-tries : goal.returns-clause-tries
returns-clause-tries g c =
    let was = c.new-lines.result in
    let end = c.write_rows.new.self in
    let done = c.write_rows.result in
    let name = c.write_rows.ensures.same_reference in
    let same : end.writer.now ≡ c.file-1.given.0 = search rules in (
      retries_left end.retries,
      subst (λ r. Tries (retries_left r) (retries_left end.retries) c.args.file.now c.file-1.given.0 done) c.new-lines.ensures.retries
          (subst₂ (λ v w. Tries (retries_left was.retries) (retries_left end.retries) v w done) c.new-lines.ensures.writer same c.write_rows.ensures.tries),
    )

use Rattle.std.proofs.Common.{Err, inr, subst, ◌∙◌}
use Rattle.std.proofs.KnownBytes.{Keeps-refl}
use Rattle.std.proofs.lemmas.Result.{err_from_is_err_and}
use Rattle.ob_stream.specs.Watching.{watched_bytes}
use Rattle.ob_jobs.specs.Importing.{ExportOf, export_line}
use Rattle.ob_jobs.specs.Telling.{Told}
use Rattle.ob_jobs.proofs.After.{stopped_after, untold_after}
use Rattle.ob_jobs.proofs.export.run_export.Goals as goal

pub returns-in_err-rows : goal.returns-in_err-rows
returns-in_err-rows g c =
    let p = err_from_is_err_and c.from_residual.result c.from_residual.ensures.1 in
    rw (p.1, p.2)
    (stopped_after (ExportOf g.F.Write.contents c.args.keeper.now c.export_rows.new.keeper c.args.file.now c.export_rows.new.file)
    export_line g.W.Write.contents c.args.writer.now c.args.writer.now c.in_err-rows.field-0.0 c.in_err-rows.ensures
    (Keeps-refl (watched_bytes g.W.Write.contents c.args.writer.now)))

pub returns-in_err-line : goal.returns-in_err-line
returns-in_err-line g c =
    let p = err_from_is_err_and c.from_residual-in_err-line.result c.from_residual-in_err-line.ensures.1 in
    rw (p.1, p.2) (inr (c.in_ok-rows.rows, c.in_ok-rows.ensures), Keeps-refl (watched_bytes g.W.Write.contents c.args.writer.now))

pub returns-in_err-tell : goal.returns-in_err-tell
returns-in_err-tell g c =
    let p = err_from_is_err_and c.from_residual-in_err-tell.result c.from_residual-in_err-tell.ensures.1 in
    rw (p.1, p.2)
    (untold_after (ExportOf g.F.Write.contents c.args.keeper.now c.export_rows.new.keeper c.args.file.now c.export_rows.new.file)
    export_line g.W.Write.contents c.args.writer.now c.tell.new.writer c.in_err-tell.field-0.0 c.in_ok-rows.rows c.in_ok-rows.ensures (subst (λ t. Told g.W.Write.contents c.args.writer.now c.tell.new.writer t (Err c.in_err-tell.field-0.0)) (c.as_bytes.ensures.value ∙ c.in_ok-line.ensures) c.in_err-tell.ensures))

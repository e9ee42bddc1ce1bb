use Rattle.std.proofs.Common.{Err, inr, subst, ◌∙◌}
use Rattle.std.proofs.KnownBytes.{Keeps-refl}
use Rattle.std.proofs.lemmas.Result.{err_from_is_err_and}
use Rattle.ob_stream.specs.Watching.{watched_bytes}
use Rattle.ob_jobs.specs.Lines.{audit_line}
use Rattle.ob_jobs.specs.Loads.{AuditOf}
use Rattle.ob_jobs.specs.Telling.{Told}
use Rattle.ob_jobs.proofs.After.{stopped_after, untold_after}
use Rattle.ob_jobs.proofs.audit.run_audit.Goals as goal

pub returns-in_err-found : goal.returns-in_err-found
returns-in_err-found g c =
    let p = err_from_is_err_and c.from_residual.result c.from_residual.ensures.1 in
    rw (p.1, p.2)
    (stopped_after (AuditOf c.args.keeper.now c.audit_tables.new.keeper)
    audit_line g.W.Write.contents c.args.writer.now c.args.writer.now c.in_err-found.field-0.0 c.in_err-found.ensures
    (Keeps-refl (watched_bytes g.W.Write.contents c.args.writer.now)))

pub returns-in_err-line : goal.returns-in_err-line
returns-in_err-line g c =
    let p = err_from_is_err_and c.from_residual-in_err-line.result c.from_residual-in_err-line.ensures.1 in
    rw (p.1, p.2) (inr (c.in_ok-found.found, c.in_ok-found.ensures), Keeps-refl (watched_bytes g.W.Write.contents c.args.writer.now))

pub returns-in_err-tell : goal.returns-in_err-tell
returns-in_err-tell g c =
    let p = err_from_is_err_and c.from_residual-in_err-tell.result c.from_residual-in_err-tell.ensures.1 in
    rw (p.1, p.2)
    (untold_after (AuditOf c.args.keeper.now c.audit_tables.new.keeper)
    audit_line g.W.Write.contents c.args.writer.now c.tell.new.writer c.in_err-tell.field-0.0 c.in_ok-found.found c.in_ok-found.ensures (subst (λ t. Told g.W.Write.contents c.args.writer.now c.tell.new.writer t (Err c.in_err-tell.field-0.0)) (c.as_bytes.ensures.value ∙ c.in_ok-line.ensures) c.in_err-tell.ensures))

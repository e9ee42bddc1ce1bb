use Rattle.std.proofs.Common.{Err, subst}
use Rattle.std.proofs.KnownBytes.{Keeps-refl}
use Rattle.std.proofs.lemmas.Result.{err_from_is_err_and}
use Rattle.ob_stream.specs.Watching.{watched_bytes}
use Rattle.ob_jobs.specs.Lines.{migrate_line}
use Rattle.ob_jobs.specs.Migrations.{MigrationOf}
use Rattle.ob_jobs.specs.Telling.{Told}
use Rattle.ob_jobs.proofs.Ends.{other_than_output, stopped, untold}
use Rattle.ob_jobs.proofs.migrate.run_migrate.Goals as goal

pub returns-in_err-migrated : goal.returns-in_err-migrated
returns-in_err-migrated g c =
    let p = err_from_is_err_and c.from_residual.result c.from_residual.ensures.1 in
    let stop = c.in_err-migrated.field-0.0 in
    rw (p.1, p.2)
    (stopped (MigrationOf c.args.keeper.now c.migrate_tables.new.keeper)
    migrate_line g.W.Write.contents c.args.writer.now c.args.writer.now stop c.in_err-migrated.ensures
    (other_than_output stop c.in_err-migrated.ensures.stops) (Keeps-refl (watched_bytes g.W.Write.contents c.args.writer.now)))

pub returns-in_err-tell : goal.returns-in_err-tell
returns-in_err-tell g c =
    let p = err_from_is_err_and c.from_residual-in_err-tell.result c.from_residual-in_err-tell.ensures.1 in
    rw (p.1, p.2)
    (untold (MigrationOf c.args.keeper.now c.migrate_tables.new.keeper)
    migrate_line g.W.Write.contents c.args.writer.now c.tell.new.writer c.in_err-tell.field-0.0 c.in_ok-migrated.migrated c.in_ok-migrated.ensures (subst (λ t. Told g.W.Write.contents c.args.writer.now c.tell.new.writer t (Err c.in_err-tell.field-0.0)) (c.line_of.ensures) c.in_err-tell.ensures))

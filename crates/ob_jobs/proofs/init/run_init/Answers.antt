use Rattle.std.proofs.Common.{subst}
use Rattle.std.proofs.KnownBytes.{Keeps-refl}
use Rattle.std.proofs.lemmas.Result.{err_from_is_err_and}
use Rattle.ob_stream.specs.Watching.{watched_bytes}
use Rattle.ob_jobs.specs.Lines.{created_line}
use Rattle.ob_jobs.specs.Making.{MakingOf}
use Rattle.ob_jobs.specs.Telling.{Told}
use Rattle.ob_jobs.proofs.Ends.{ended, making_other, stopped}
use Rattle.ob_jobs.proofs.init.run_init.Goals as goal

pub returns-in_err-make_tables : goal.returns-in_err-make_tables
returns-in_err-make_tables g c =
    let p = err_from_is_err_and c.from_residual.result c.from_residual.ensures.1 in
    let stop = c.in_err-make_tables.field-0.0 in
    let old = c.args.keeper.now in
    let new = c.make_tables.new.keeper in
    rw (p.1, p.2)
    (stopped (MakingOf old new c.args.first.now c.args.days c.args.zone.now)
    (λ _. created_line) g.W.Write.contents c.args.writer.now c.args.writer.now stop c.in_err-make_tables.ensures
    (making_other old new c.args.first.now c.args.days c.args.zone.now stop c.in_err-make_tables.ensures)
    (Keeps-refl (watched_bytes g.W.Write.contents c.args.writer.now)))

pub returns : goal.returns
returns g c =
    ended (MakingOf c.args.keeper.now c.make_tables.new.keeper c.args.first.now c.args.days c.args.zone.now)
    created_line g.W.Write.contents c.args.writer.now c.tell.new.writer c.tell.result c.in_ok-make_tables.ensures
    (subst (λ t. Told g.W.Write.contents c.args.writer.now c.tell.new.writer t c.tell.result) c.as_slice.ensures c.tell.ensures)

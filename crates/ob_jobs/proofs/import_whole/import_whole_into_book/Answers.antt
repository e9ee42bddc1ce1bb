use Rattle.std.proofs.Common.{Err, Some, ap, inl, inr, refl, subst, sym, ◌∙◌}
use Rattle.std.proofs.KnownBytes.{Keeps-refl}
use Rattle.std.proofs.lemmas.Result.{err_from_is_err_and}
use Rattle.ob_base.specs.declared.stop.Stop.TheVariants.{Fault}
use Rattle.ob_import.specs.Whole.{WholeOf}
use Rattle.ob_stream.specs.Watching.{watched_bytes}
use Rattle.ob_jobs.specs.Importing.{ImportsAs, import_line}
use Rattle.ob_jobs.proofs.After.{stopped_after, told_after}
use Rattle.ob_jobs.proofs.import_whole.import_whole_into_book.Goals as goal

pub returns-in_err-load_with_progress : goal.returns-in_err-load_with_progress
returns-in_err-load_with_progress g c =
    let p = err_from_is_err_and c.from_residual.result c.from_residual.ensures.1 in
    (Err c.in_err-load_with_progress.field-0.0, p.1 ∙ ap Err p.2, inl (c.in_err-load_with_progress.field-0.0, c.in_err-load_with_progress.ensures.loads, refl, (refl, refl)))

pub returns-in_default : goal.returns-in_default
returns-in_default g c =
    (_, ap Err c.from.ensures, inr (c.load_with_progress.new.self, c.in_ok-load_with_progress.ensures.loads, inl (c.in_default.ensures, refl, (refl, refl))))

pub returns-in-Ok : goal.returns-in-Ok
returns-in-Ok g c =
    let contents = g.W.Write.contents in
    let told = told_after (ImportsAs (WholeOf g.O.Input.Read.remaining c.load_with_progress.new.self c.import_whole.new.keeper c.new-reader.result c.import_whole.new.reader))
    import_line contents c.args.writer.now c.tell_report.new.writer c.in-Ok.report c.in-Ok.ensures c.tell_report.result c.tell_report.ensures in (
      c.tell_report.result,
      c.end_of_import.ensures,
      inr (
        c.load_with_progress.new.self,
        c.in_ok-load_with_progress.ensures.loads,
        inr (
          c.new-reader.result,
          subst (λ opened. g.O.OpenInput.opens c.args.input.now (Some opened) c.open.new.self) (sym c.new-reader.ensures.inner) c.in-Some.ensures,
          (c.import_whole.new.reader, told),
        ),
      ),
    )

pub returns : goal.returns
returns g c =
    let contents = g.W.Write.contents in
    let failed = c.in-Err.failed in
    let stopped = stopped_after (ImportsAs (WholeOf g.O.Input.Read.remaining c.load_with_progress.new.self c.import_whole.new.keeper c.new-reader.result c.import_whole.new.reader))
    import_line contents c.args.writer.now c.args.writer.now (Fault failed.fault) (failed.added, failed.again, c.in-Err.ensures) (Keeps-refl (watched_bytes contents c.args.writer.now)) in (
      Err (Fault failed.fault),
      ap Err c.from-in-Err.ensures,
      inr (
        c.load_with_progress.new.self,
        c.in_ok-load_with_progress.ensures.loads,
        inr (
          c.new-reader.result,
          subst (λ opened. g.O.OpenInput.opens c.args.input.now (Some opened) c.open.new.self) (sym c.new-reader.ensures.inner) c.in-Some.ensures,
          (c.import_whole.new.reader, stopped),
        ),
      ),
    )

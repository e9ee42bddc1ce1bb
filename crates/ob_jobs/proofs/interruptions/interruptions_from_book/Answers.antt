use Rattle.std.proofs.Common.{Err, Some, ap, inl, inr, refl, subst, sym, ◌∙◌}
use Rattle.std.proofs.lemmas.Result.{err_from_is_err_and}
use Rattle.ob_jobs.proofs.interruptions.interruptions_from_book.Goals as goal

pub returns-in_err-load_with_progress : goal.returns-in_err-load_with_progress
returns-in_err-load_with_progress g c =
    let p = err_from_is_err_and c.from_residual.result c.from_residual.ensures.1 in
    (Err c.in_err-load_with_progress.field-0.0, p.1 ∙ ap Err p.2, inl (c.in_err-load_with_progress.field-0.0, c.in_err-load_with_progress.ensures.loads, refl, (refl, refl)))

pub returns-in_default : goal.returns-in_default
returns-in_default g c =
    (_, ap Err c.from.ensures, inr (c.load_with_progress.new.self, c.in_ok-load_with_progress.ensures.loads, (refl, inl (c.in_default.ensures, refl, refl))))

pub returns : goal.returns
returns g c = (
  c.run_interruptions.result,
  c.end_of_job.ensures,
  inr (
    c.load_with_progress.new.self,
    c.in_ok-load_with_progress.ensures.loads,
    (
      refl,
      inr (
        c.new-file.result,
        subst (λ opened. g.O.OpenOutput.opens c.args.output.now (Some opened) c.open.new.self) (sym c.new-file.ensures.inner) c.in-Some.ensures,
        (c.run_interruptions.new.file, c.run_interruptions.ensures),
      ),
    ),
  ),
)

use Rattle.std.proofs.Common.{Err, ap, inl, inr, refl, ◌∙◌}
use Rattle.std.proofs.lemmas.Result.{err_from_is_err_and}
use Rattle.ob_jobs.proofs.indices.print_indices.Goals as goal

pub returns-in_err-load_with_progress : goal.returns-in_err-load_with_progress
returns-in_err-load_with_progress g c =
    let p = err_from_is_err_and c.from_residual.result c.from_residual.ensures.1 in
    (Err c.in_err-load_with_progress.field-0.0, p.1 ∙ ap Err p.2, inl (c.in_err-load_with_progress.field-0.0, c.in_err-load_with_progress.ensures.loads, refl, refl))

pub returns : goal.returns
returns g c = (c.run_indices.result, c.end_of_job.ensures, inr (c.load_with_progress.new.self, c.in_ok-load_with_progress.ensures.loads, (refl, c.run_indices.ensures)))

use Rattle.std.proofs.Common.{Err, ap, inl, inr, refl, ◌∙◌}
use Rattle.std.proofs.lemmas.Result.{err_from_is_err_and}
use Rattle.ob_jobs.proofs.serve.serve_book.Goals as goal

pub returns-in_err-load_with_progress : goal.returns-in_err-load_with_progress
returns-in_err-load_with_progress g c =
    let p = err_from_is_err_and c.from_residual.result c.from_residual.ensures.1 in
    (Err c.in_err-load_with_progress.field-0.0, p.1 ∙ ap Err p.2, inl (c.in_err-load_with_progress.field-0.0, c.in_err-load_with_progress.ensures.loads, refl, refl))

pub returns-in_err-port : goal.returns-in_err-port
returns-in_err-port g c =
    let p = err_from_is_err_and c.from_residual-in_err-port.result c.from_residual-in_err-port.ensures.1 in
    let stop = c.in_err-port.field-0.0 in
    (Err stop, p.1 ∙ ap Err p.2, inr (c.load_with_progress.new.self, c.in_ok-load_with_progress.ensures.loads, inl (stop, c.in_err-port.ensures, refl, refl)))

pub returns : goal.returns
returns g c =
    (c.serve.result, c.end_of_job.ensures, inr (c.load_with_progress.new.self, c.in_ok-load_with_progress.ensures.loads, inr (c.in_ok-port.port, c.take.new.self, c.in_ok-port.ensures, c.serve.ensures)))

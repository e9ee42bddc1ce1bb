use Rattle.ob_jobs.proofs.init.make_book.Goals as goal

pub returns : goal.returns
returns g c = (c.run_init.result, c.end_of_job.ensures, c.run_init.ensures)

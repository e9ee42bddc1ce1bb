use Rattle.ob_jobs.proofs.migrate.migrate_book.Goals as goal

pub returns : goal.returns
returns g c = (c.run_migrate.result, c.end_of_job.ensures, c.run_migrate.ensures)

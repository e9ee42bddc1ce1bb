use Rattle.ob_jobs.proofs.audit.audit_book.Goals as goal

pub returns : goal.returns
returns g c = (c.run_audit.result, c.end_of_audit.ensures, c.run_audit.ensures)

use Rattle.ob_jobs.proofs.init.make_tables.Goals as goal

pub returns : goal.returns
returns g c =
    record {
      clean = c.create.ensures.clean;
      created = c.create.ensures.created;
      cause = c.create.ensures.cause;
      numbered = c.create.ensures.numbered;
      limit = c.create.ensures.limit;
    }

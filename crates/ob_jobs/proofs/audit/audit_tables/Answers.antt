use Rattle.ob_jobs.proofs.audit.audit_tables.Goals as goal

pub returns : goal.returns
returns g c =
    let all = c.audit.ensures in
    record {
      kept = all.found;
      dropped = all.dropped;
      stops = all.stops;
      clean = all.clean;
      survives = all.survives;
      answers = all.answers;
      audited = all.audited;
      outdated = all.outdated;
    }

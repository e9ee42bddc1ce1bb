use Rattle.ob_jobs.proofs.migrate.migrate_tables.Goals as goal

pub returns : goal.returns
returns g c =
    let all = c.migrate.ensures in
    record {
      kept_book = all.found;
      dropped = all.dropped;
      stops = all.stops;
      clean = all.clean;
      survives = all.survives;
      goes_on = all.goes_on;
      migrated = all.migrated;
      current = all.current;
      kept = all.kept;
      crash = all.crash;
    }

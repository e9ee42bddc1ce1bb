use Rattle.ob_store.proofs.keeper.Keeper.load_with_progress.Goals as goal

pub returns-clause-loads : goal.returns-clause-loads
returns-clause-loads g c =
    let it = c.read_book.ensures in
    record {
      found = it.found;
      dropped = it.dropped;
      stops = it.stops;
      clean = it.clean;
      survives = it.survives;
      answers = it.answers;
      loaded = it.loaded;
      outdated = it.outdated;
      crash = c.crash_law.ensures;
    }

use Rattle.ob_lists.specs.Standing.{MayBe}
use Rattle.ob_lists.proofs.Standings.{after_result, migrate_stands}
use Rattle.ob_lists.proofs.calls.migrate.Goals as goal
use Rattle.ob_store.specs.Keepers.{book_of}

pub returns-clause-goes : goal.returns-clause-goes
returns-clause-goes g c =
    let old = c.args.keeper.now in
    let new = c.migrate.new.self in
    let m = c.migrate.ensures in
    record {
      clean = m.clean;
      stands = λ clean b before stands. migrate_stands old new (MayBe b before) c.migrate.result m.goes_on clean (m.clean clean)
          (after_result (book_of old) (book_of new) c.migrate.result m.found m.dropped) (m.migrated clean) (m.kept clean) stands;
    }

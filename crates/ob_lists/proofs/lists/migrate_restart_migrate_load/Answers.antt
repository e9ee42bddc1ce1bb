use Rattle.ob_lists.specs.Standing.{MayBe}
use Rattle.ob_lists.proofs.Standings.{finds}
use Rattle.ob_lists.proofs.lists.migrate_restart_migrate_load.Goals as goal

pub returns : goal.returns
returns g c =
    λ clean b told stands.
    let next = c.restart-next in
    let goes = c.restart_law.ensures c.migrate.new.keeper next.result next.ensures in
    let migrated = c.load-found.ensures.goes.clean clean in
    let opened = c.migrate-2.ensures.goes.clean migrated in
    let left = c.migrate.ensures.goes.stands (goes.clean opened) b told stands in
    let was = c.migrate-2.ensures.goes.stands migrated b told (goes.stands opened b told left) in
    finds (MayBe b told) c.migrate-2.new.keeper c.load-found.new.keeper c.load-found.result was c.load-found.ensures.load (c.load-found.ensures.loads clean b told was)

use Rattle.ob_lists.proofs.lists.migrate_load_audit.Goals as goal

pub returns : goal.returns
returns g c =
    λ clean b told stands.
    let loaded = c.audit.ensures.goes.clean clean in
    let migrated = c.load.ensures.goes.clean loaded in
    c.audit.ensures.goes.stands clean b told (c.load.ensures.goes.stands loaded b told (c.migrate.ensures.goes.stands migrated b told stands))

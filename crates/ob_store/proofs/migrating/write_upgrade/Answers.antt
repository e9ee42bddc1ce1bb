use Rattle.sqlite.specs.Held.{state}
use Rattle.ob_sql_rows.specs.declared.version.Version.TheVariants.{One}
use Rattle.ob_sql_write.specs.Keeps.{KeepsIn}
use Rattle.ob_sql_write.specs.Upgrade.{CanUpgrade, LeavesUpgraded, with_upgrade}
use Rattle.ob_sql_check.specs.OldTables.{old_tables_of}
use Rattle.ob_store.specs.Upgrading.{LeavesWritten}
use Rattle.ob_store.proofs.Upgrading.{keeps_old, not_caused, survives_as, upgraded_or, written}
use Rattle.ob_store.proofs.migrating.write_upgrade.Goals as goal

pub returns-clause-upgraded : goal.returns-clause-upgraded
returns-clause-upgraded g c clean opened schema b has apart makes =
    let old = c.args.conn.now in
    let e = c.commit_upgrade.ensures in
    let is = c.deref.ensures.value in
    let keeps : KeepsIn One (state g.S.Store old) (old_tables_of b) =
    keeps_old (state g.S.Store old) (old_tables_of b) opened c.schema-schema.ensures.live (λ live. c.is_autocommit.ensures.settled c.if-prove.false live) (λ live trees may. g.met.S.Store.settled old.store trees live may) schema
    (record { rows = has.tables; apart = apart }) in
    upgraded_or g.S.Store c.upgrade_law.ensures.reached old c.commit_upgrade.new.conn c.args.it.now (rw is at e.survives) b has makes keeps clean c.commit_upgrade.result e.faults (rw is at e.done) e.undone (rw is at e.either)

pub returns-clause-cause : goal.returns-clause-cause
returns-clause-cause g c clean numbers opened schema b has apart makes =
    let old = c.args.conn.now in
    let e = c.commit_upgrade.ensures in
    let keeps : KeepsIn One (state g.S.Store old) (old_tables_of b) =
    keeps_old (state g.S.Store old) (old_tables_of b) opened c.schema-schema.ensures.live (λ live. c.is_autocommit.ensures.settled c.if-prove.false live) (λ live trees may. g.met.S.Store.settled old.store trees live may) schema
    (record { rows = has.tables; apart = apart }) in
    not_caused g.S.Store c.upgrade_law.ensures.reached old c.commit_upgrade.new.conn c.args.it.now (rw c.deref.ensures.value at e.survives) b has makes keeps clean numbers c.commit_upgrade.result (rw c.deref.ensures.value at e.cause)

pub returns-clause-numbered : goal.returns-clause-numbered
returns-clause-numbered g c numbers opened schema b has apart makes =
    let old = c.args.conn.now in
    let keeps : KeepsIn One (state g.S.Store old) (old_tables_of b) =
    keeps_old (state g.S.Store old) (old_tables_of b) opened c.schema-schema.ensures.live (λ live. c.is_autocommit.ensures.settled c.if-prove.false live) (λ live trees may. g.met.S.Store.settled old.store trees live may) schema
    (record { rows = has.tables; apart = apart }) in
    (rw c.deref.ensures.value at c.commit_upgrade.ensures.numbered) (old_tables_of b) keeps makes.can numbers

pub returns-clause-survives : goal.returns-clause-survives
returns-clause-survives g c =
    let old = c.args.conn.now in
    let new = c.commit_upgrade.new.conn in
    let it = c.args.it.now in
    survives_as (state g.S.Store old) (state g.S.Store new) (LeavesUpgraded (state g.S.Store old) (CanUpgrade it.bodies.items it.devices) (with_upgrade it.bodies.items it.devices)) (LeavesWritten g.S.Store old c.args.it.now)
    (λ trees leaves opened schema b has apart makes.
    let keeps : KeepsIn One (state g.S.Store old) (old_tables_of b) =
    keeps_old (state g.S.Store old) (old_tables_of b) opened c.schema-schema.ensures.live (λ live. c.is_autocommit.ensures.settled c.if-prove.false live) (λ live trees may. g.met.S.Store.settled old.store trees live may) schema
    (record { rows = has.tables; apart = apart }) in
    written (state g.S.Store old) c.args.it.now b makes keeps trees leaves)
    (rw c.deref.ensures.value at c.commit_upgrade.ensures.survives)

use Rattle.std.proofs.Common.{Ok, Err, true, true≢false, arith}
use Rattle.sqlite.specs.Held.{state}
use Rattle.sqlite.specs.State.{HasCleanDisk}
use Rattle.ob_sql_rows.specs.declared.version.Version.TheVariants.{One}
use Rattle.ob_store.proofs.GoingOn.{now_told, on_err, on_more, on_ok}
use Rattle.ob_store.proofs.Upgrading.{failed, unfound, untold, was_new, was_old}
use Rattle.ob_store.proofs.migrating.migrate_on.Goals as goal

pub returns-in-Ok-true-clause-migrates : goal.returns-in-Ok-true-clause-migrates
returns-in-Ok-true-clause-migrates g c =
    was_new g.S.Store c.args.conn.now c.tells_new.new.conn c.in-Ok-true.field-0 c.in-Ok-true.field-0-test c.in-Ok-true.ensures.finds

pub returns-in-Err-clause-migrates : goal.returns-in-Err-clause-migrates
returns-in-Err-clause-migrates g c = untold g.S.Store c.args.conn.now c.tells_new.new.conn c.in-Err.stop c.in-Err.ensures.finds

pub returns-in-Err-find_old-clause-migrates : goal.returns-in-Err-find_old-clause-migrates
returns-in-Err-find_old-clause-migrates g c =
    unfound g.S.Store c.args.conn.now c.tells_new.new.conn c.in-Ok-false.field-0 c.in-Ok-false.field-0-test c.in-Ok-false.ensures.finds c.find_old.new.conn c.in-Err-find_old.stop c.in-Err-find_old.ensures

pub returns-in-Ok-write_upgrade-clause-migrates : goal.returns-in-Ok-write_upgrade-clause-migrates
returns-in-Ok-write_upgrade-clause-migrates g c =
    let e = c.in-Ok-write_upgrade.ensures in
    was_old g.S.Store c.args.conn.now c.tells_new.new.conn c.in-Ok-false.field-0 c.in-Ok-false.field-0-test c.in-Ok-false.ensures.finds c.find_old.new.conn c.in-Ok.found c.in-Ok.ensures c.write_upgrade.new.conn
    (λ clean. omega (arith, e.survives.clean, clean)) e.survives (λ clean. c.in-Ok-false.ensures.asks.live clean tt) (λ clean. c.in-Ok-false.ensures.shape clean c.in-Ok-false.field-0-test) e.upgraded e.numbered

pub returns-clause-migrates : goal.returns-clause-migrates
returns-clause-migrates g c =
    let e = c.in-Err-write_upgrade.ensures in
    failed g.S.Store c.args.conn.now c.tells_new.new.conn c.in-Ok-false.field-0 c.in-Ok-false.field-0-test c.in-Ok-false.ensures.finds c.find_old.new.conn c.in-Ok.found c.in-Ok.ensures c.write_upgrade.new.conn
    (λ clean. omega (arith, e.survives.clean, clean)) e.survives (λ clean. c.in-Ok-false.ensures.asks.live clean tt) (λ clean. c.in-Ok-false.ensures.shape clean c.in-Ok-false.field-0-test) c.in-Err-write_upgrade.stop e.upgraded e.faults e.cause e.numbered

-- ---- a reading ends outside a transaction where it began so
pub returns-in-Ok-true-clause-mode : goal.returns-in-Ok-true-clause-mode
returns-in-Ok-true-clause-mode g c = (c.in-Ok-true.ensures.finds One).mode c.requires.mode

pub returns-in-Err-clause-mode : goal.returns-in-Err-clause-mode
returns-in-Err-clause-mode g c = (c.in-Err.ensures.finds One).mode c.requires.mode

pub returns-in-Err-find_old-clause-mode : goal.returns-in-Err-find_old-clause-mode
returns-in-Err-find_old-clause-mode g c = c.in-Err-find_old.ensures.mode ((c.in-Ok-false.ensures.finds One).mode c.requires.mode)

pub write_upgrade-requires : goal.write_upgrade-requires
write_upgrade-requires g c = record { mode = c.in-Ok.ensures.mode ((c.in-Ok-false.ensures.finds One).mode c.requires.mode) }

-- ---- what the store kept
pub returns-in-Ok-true-clause-goes_on : goal.returns-in-Ok-true-clause-goes_on
returns-in-Ok-true-clause-goes_on g c =
    on_ok g.S.Store c.args.conn.now c.tells_new.new.conn c.in-Ok-true.field-0 c.in-Ok-true.ensures.asks (λ clean. c.in-Ok-true.ensures.told clean c.in-Ok-true.field-0-test)
    (was_new g.S.Store c.args.conn.now c.tells_new.new.conn c.in-Ok-true.field-0 c.in-Ok-true.field-0-test c.in-Ok-true.ensures.finds).numbered

pub returns-in-Err-clause-goes_on : goal.returns-in-Err-clause-goes_on
returns-in-Err-clause-goes_on g c =
    let it = untold g.S.Store c.args.conn.now c.tells_new.new.conn c.in-Err.stop c.in-Err.ensures.finds in
    on_err g.S.Store c.args.conn.now c.tells_new.new.conn c.in-Err.stop c.in-Err.ensures.asks it.cause it.numbered

pub returns-in-Err-find_old-clause-goes_on : goal.returns-in-Err-find_old-clause-goes_on
returns-in-Err-find_old-clause-goes_on g c =
    let it = c.in-Ok-false in
    let clean : HasCleanDisk (state g.S.Store c.find_old.new.conn) → HasCleanDisk (state g.S.Store c.tells_new.new.conn) = c.in-Err-find_old.ensures.clean in
    on_more g.S.Store c.args.conn.now c.find_old.new.conn (Err c.in-Err-find_old.stop) (λ late. it.ensures.asks.live (clean late) tt) it.ensures.first
    (λ late schema. now_told g.S.Store c.args.conn.now c.tells_new.new.conn it.field-0 it.field-0-test it.ensures.finds (clean late) schema)
    (λ late none. it.ensures.asks.empty (clean late) none) (λ late. tt) (λ late. tt)
    (unfound g.S.Store c.args.conn.now c.tells_new.new.conn it.field-0 it.field-0-test it.ensures.finds c.find_old.new.conn c.in-Err-find_old.stop c.in-Err-find_old.ensures)

pub returns-in-Ok-write_upgrade-clause-goes_on : goal.returns-in-Ok-write_upgrade-clause-goes_on
returns-in-Ok-write_upgrade-clause-goes_on g c =
    let it = c.in-Ok-false in
    let e = c.in-Ok-write_upgrade.ensures in
    let clean : HasCleanDisk (state g.S.Store c.write_upgrade.new.conn) → HasCleanDisk (state g.S.Store c.tells_new.new.conn) = λ late. c.in-Ok.ensures.clean (omega (arith, e.survives.clean, late)) in
    on_more g.S.Store c.args.conn.now c.write_upgrade.new.conn (Ok true) (λ late. it.ensures.asks.live (clean late) tt) it.ensures.first
    (λ late schema. now_told g.S.Store c.args.conn.now c.tells_new.new.conn it.field-0 it.field-0-test it.ensures.finds (clean late) schema)
    (λ late none. it.ensures.asks.empty (clean late) none) (λ late so. it.ensures.shape (clean late) it.field-0-test) (λ late no. absurd (true≢false no))
    (was_old g.S.Store c.args.conn.now c.tells_new.new.conn it.field-0 it.field-0-test it.ensures.finds c.find_old.new.conn c.in-Ok.found c.in-Ok.ensures c.write_upgrade.new.conn
    (λ late. omega (arith, e.survives.clean, late)) e.survives (λ late. it.ensures.asks.live late tt) (λ late. it.ensures.shape late it.field-0-test) e.upgraded e.numbered)

pub returns-clause-goes_on : goal.returns-clause-goes_on
returns-clause-goes_on g c =
    let it = c.in-Ok-false in
    let e = c.in-Err-write_upgrade.ensures in
    let clean : HasCleanDisk (state g.S.Store c.write_upgrade.new.conn) → HasCleanDisk (state g.S.Store c.tells_new.new.conn) = λ late. c.in-Ok.ensures.clean (omega (arith, e.survives.clean, late)) in
    on_more g.S.Store c.args.conn.now c.write_upgrade.new.conn (Err c.in-Err-write_upgrade.stop) (λ late. it.ensures.asks.live (clean late) tt) it.ensures.first
    (λ late schema. now_told g.S.Store c.args.conn.now c.tells_new.new.conn it.field-0 it.field-0-test it.ensures.finds (clean late) schema)
    (λ late none. it.ensures.asks.empty (clean late) none) (λ late. tt) (λ late. tt)
    (failed g.S.Store c.args.conn.now c.tells_new.new.conn it.field-0 it.field-0-test it.ensures.finds c.find_old.new.conn c.in-Ok.found c.in-Ok.ensures c.write_upgrade.new.conn
    (λ late. omega (arith, e.survives.clean, late)) e.survives (λ late. it.ensures.asks.live late tt) (λ late. it.ensures.shape late it.field-0-test) c.in-Err-write_upgrade.stop e.upgraded e.faults e.cause e.numbered)

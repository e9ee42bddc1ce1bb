use Rattle.std.proofs.Common.{◌≡◌, inl, refl, sym, subst, arith, rules, true}
use Rattle.sqlite.specs.State.{HasCleanDisk, Survives}
use Rattle.sqlite.specs.Held.{state}
use Rattle.ob_base.specs.declared.stop.Stop.TheVariants.{Fault}
use Rattle.ob_base.specs.declared.stop.Fault.TheVariants.{Store}
use Rattle.ob_sql_rows.specs.Rows.{Tables}
use Rattle.ob_sql_rows.specs.Steps.{Silent}
use Rattle.ob_sql_rows.specs.declared.version.Version.TheVariants.{One}
use Rattle.ob_sql_write.specs.Keeps.{HasCommitCause, Keeps, KeepsIn, KeepsNumbers}
use Rattle.ob_sql_write.specs.Upgrade.{KeepsOldOr, LeavesUpgraded, LetsUpgrade, Upgrades, CanUpgrade, with_upgrade}
use Rattle.ob_sql_write.proofs.Causes.{handed}
use Rattle.ob_sql_write.proofs.Commits.{silent_begin, committed, dropped_upgrade, failed, failed_cause, numbered_commit, numbers_survive, survives_commit}
use Rattle.ob_sql_write.proofs.upgrade.commit_upgrade.Goals as goal

pub returns-in-Ok-clause-done : goal.returns-in-Ok-clause-done
returns-in-Ok-clause-done g c t keeps needed =
    let h = c.args.conn.now in
    let old = state g.S.Store h in
    let last = state g.S.Store c.write_upgrade.new.tx.conn.now in
    let end = c.commit.new.self.0 in
    let needs = CanUpgrade c.args.bodies.now c.args.devices in
    let change = with_upgrade c.args.bodies.now c.args.devices in
    let same : end ≡ c.conn-2-1.given.0 = search rules in
    let quiet : Silent old last = silent_begin g.S.Store h last (rw c.transaction-tx.ensures.begun at c.write_upgrade.ensures.silent) in
    let makes : HasCleanDisk last → Upgrades (record old { in_transaction = true }) last needs change = λ late. (rw c.transaction-tx.ensures.begun at (c.in_ok-write_upgrade.ensures.makes late)) refl in
    subst (λ x. Keeps (state g.S.Store x) (change t)) same
    (committed old last (state g.S.Store end) t needs change c.schema-schema.ensures.live keeps needed quiet makes c.commit.ensures.survives (λ clean. (c.in-Ok.ensures.ok clean).1) (λ live trees may. g.met.S.Store.settled end.store trees live may))

pub returns-in-Err-clause-either : goal.returns-in-Err-clause-either
returns-in-Err-clause-either g c t keeps needed =
    let h = c.args.conn.now in
    let old = state g.S.Store h in
    let last = state g.S.Store c.write_upgrade.new.tx.conn.now in
    let end = c.commit.new.self.0 in
    let needs = CanUpgrade c.args.bodies.now c.args.devices in
    let change = with_upgrade c.args.bodies.now c.args.devices in
    let same : end ≡ c.conn-2-1.given.0 = search rules in
    let quiet : Silent old last = silent_begin g.S.Store h last (rw c.transaction-tx.ensures.begun at c.write_upgrade.ensures.silent) in
    let makes : HasCleanDisk last → Upgrades (record old { in_transaction = true }) last needs change = λ late. (rw c.transaction-tx.ensures.begun at (c.in_ok-write_upgrade.ensures.makes late)) refl in
    subst (λ x. KeepsOldOr (state g.S.Store x) t (change t)) same (failed old last (state g.S.Store end) t needs change c.schema-schema.ensures.live keeps needed quiet makes c.commit.ensures.survives _ c.in-Err.ensures.err)

pub returns-in-Ok-clause-survives : goal.returns-in-Ok-clause-survives
returns-in-Ok-clause-survives g c =
    let h = c.args.conn.now in
    let old = state g.S.Store h in
    let last = state g.S.Store c.write_upgrade.new.tx.conn.now in
    let end = c.commit.new.self.0 in
    let needs = CanUpgrade c.args.bodies.now c.args.devices in
    let change = with_upgrade c.args.bodies.now c.args.devices in
    let same : end ≡ c.conn-2-1.given.0 = search rules in
    let quiet : Silent old last = silent_begin g.S.Store h last (rw c.transaction-tx.ensures.begun at c.write_upgrade.ensures.silent) in
    let makes : HasCleanDisk last → Upgrades (record old { in_transaction = true }) last needs change = λ late. (rw c.transaction-tx.ensures.begun at (c.in_ok-write_upgrade.ensures.makes late)) refl in
    subst (λ x. Survives old (state g.S.Store x) (LeavesUpgraded old needs change)) same (survives_commit old last (state g.S.Store end) needs change c.schema-schema.ensures.live quiet makes c.commit.ensures.survives)

pub returns-in-Err-clause-survives : goal.returns-in-Err-clause-survives
returns-in-Err-clause-survives g c =
    let h = c.args.conn.now in
    let old = state g.S.Store h in
    let last = state g.S.Store c.write_upgrade.new.tx.conn.now in
    let end = c.commit.new.self.0 in
    let needs = CanUpgrade c.args.bodies.now c.args.devices in
    let change = with_upgrade c.args.bodies.now c.args.devices in
    let same : end ≡ c.conn-2-1.given.0 = search rules in
    let quiet : Silent old last = silent_begin g.S.Store h last (rw c.transaction-tx.ensures.begun at c.write_upgrade.ensures.silent) in
    let makes : HasCleanDisk last → Upgrades (record old { in_transaction = true }) last needs change = λ late. (rw c.transaction-tx.ensures.begun at (c.in_ok-write_upgrade.ensures.makes late)) refl in
    subst (λ x. Survives old (state g.S.Store x) (LeavesUpgraded old needs change)) same (survives_commit old last (state g.S.Store end) needs change c.schema-schema.ensures.live quiet makes c.commit.ensures.survives)

pub returns-in-Ok-clause-numbered : goal.returns-in-Ok-clause-numbered
returns-in-Ok-clause-numbered g c t keeps needed numbers =
    let h = c.args.conn.now in
    let old = state g.S.Store h in
    let last = state g.S.Store c.write_upgrade.new.tx.conn.now in
    let end = c.commit.new.self.0 in
    let needs = CanUpgrade c.args.bodies.now c.args.devices in
    let change = with_upgrade c.args.bodies.now c.args.devices in
    let same : end ≡ c.conn-2-1.given.0 = search rules in
    let quiet : Silent old last = silent_begin g.S.Store h last (rw c.transaction-tx.ensures.begun at c.write_upgrade.ensures.silent) in
    let makes : HasCleanDisk last → Upgrades (record old { in_transaction = true }) last needs change = λ late. (rw c.transaction-tx.ensures.begun at (c.in_ok-write_upgrade.ensures.makes late)) refl in
    subst (λ x. KeepsNumbers (state g.S.Store x)) same
    (numbered_commit old last (state g.S.Store end) t keeps numbers (λ live. g.met.S.Store.stays h.store live) quiet needs change needed makes c.commit.ensures.survives)

pub returns-in-Err-clause-numbered : goal.returns-in-Err-clause-numbered
returns-in-Err-clause-numbered g c t keeps needed numbers =
    let h = c.args.conn.now in
    let old = state g.S.Store h in
    let last = state g.S.Store c.write_upgrade.new.tx.conn.now in
    let end = c.commit.new.self.0 in
    let needs = CanUpgrade c.args.bodies.now c.args.devices in
    let change = with_upgrade c.args.bodies.now c.args.devices in
    let same : end ≡ c.conn-2-1.given.0 = search rules in
    let quiet : Silent old last = silent_begin g.S.Store h last (rw c.transaction-tx.ensures.begun at c.write_upgrade.ensures.silent) in
    let makes : HasCleanDisk last → Upgrades (record old { in_transaction = true }) last needs change = λ late. (rw c.transaction-tx.ensures.begun at (c.in_ok-write_upgrade.ensures.makes late)) refl in
    subst (λ x. KeepsNumbers (state g.S.Store x)) same
    (numbered_commit old last (state g.S.Store end) t keeps numbers (λ live. g.met.S.Store.stays h.store live) quiet needs change needed makes c.commit.ensures.survives)

pub returns-in-Err-clause-cause : goal.returns-in-Err-clause-cause
returns-in-Err-clause-cause g c store clean t keeps numbers needed allowed =
    let h = c.args.conn.now in
    let old = state g.S.Store h in
    let last = state g.S.Store c.write_upgrade.new.tx.conn.now in
    let end = c.commit.new.self.0 in
    let needs = CanUpgrade c.args.bodies.now c.args.devices in
    let change = with_upgrade c.args.bodies.now c.args.devices in
    let same : end ≡ c.conn-2-1.given.0 = search rules in
    let quiet : Silent old last = silent_begin g.S.Store h last (rw c.transaction-tx.ensures.begun at c.write_upgrade.ensures.silent) in
    let makes : HasCleanDisk last → Upgrades (record old { in_transaction = true }) last needs change = λ late. (rw c.transaction-tx.ensures.begun at (c.in_ok-write_upgrade.ensures.makes late)) refl in
    let done : HasCleanDisk (state g.S.Store end) = subst (λ x. HasCleanDisk (state g.S.Store x)) (sym same) clean in
    subst (λ x. HasCommitCause g.S.Store old (state g.S.Store x) (change t)) same
    (failed_cause g.S.Store old c.write_upgrade.new.tx.conn.now (state g.S.Store end) t needs change keeps needed quiet makes c.commit.ensures.survives _ done (c.in-Err.ensures.err done))

pub returns-in_err-write_upgrade-clause-cause : goal.returns-in_err-write_upgrade-clause-cause
returns-in_err-write_upgrade-clause-cause g c =
    let h = c.args.conn.now in
    let old = state g.S.Store h in
    let last = state g.S.Store c.write_upgrade.new.tx.conn.now in
    let end = c.drop-tx.new.self.0 in
    let needs = CanUpgrade c.args.bodies.now c.args.devices in
    let lets = LetsUpgrade c.args.bodies.now c.args.devices in
    let change = with_upgrade c.args.bodies.now c.args.devices in
    let same : end ≡ c.conn-1.given.0 = search rules in
    let quiet : Silent old last = silent_begin g.S.Store h last (rw c.transaction-tx.ensures.begun at c.write_upgrade.ensures.silent) in
    handed c.from_residual.result _ (λ stop. stop ≡ Fault Store → HasCleanDisk (state g.S.Store c.conn-1.given.0) → (t : Tables) → KeepsIn One old t → KeepsNumbers old → needs t → lets t
    → HasCommitCause g.S.Store old (state g.S.Store c.conn-1.given.0) (change t)) c.from_residual.ensures.1
    (λ store clean t keeps numbers needed allowed.
    let done : HasCleanDisk (state g.S.Store end) = subst (λ x. HasCleanDisk (state g.S.Store x)) (sym same) clean in
    let late : HasCleanDisk last = omega (arith, c.drop-tx.ensures.survives.clean, done) in
    let first : HasCleanDisk old = omega (arith, quiet.survives.clean, late) in
    subst (λ x. HasCommitCause g.S.Store old (state g.S.Store x) (change t)) same
    (inl (dropped_upgrade old last (state g.S.Store end) _ t needs lets first c.schema-schema.ensures.live keeps numbers (λ live. g.met.S.Store.stays h.store live) needed allowed
    ((rw c.transaction-tx.ensures.begun at (c.in_err-write_upgrade.ensures.cause late)) store refl) c.drop-tx.ensures.survives)))

pub returns-in_err-write_upgrade-clause-numbered : goal.returns-in_err-write_upgrade-clause-numbered
returns-in_err-write_upgrade-clause-numbered g c t keeps needed numbers =
    let h = c.args.conn.now in
    let old = state g.S.Store h in
    let last = state g.S.Store c.write_upgrade.new.tx.conn.now in
    let end = c.drop-tx.new.self.0 in
    let same : end ≡ c.conn-1.given.0 = search rules in
    let quiet : Silent old last = silent_begin g.S.Store h last (rw c.transaction-tx.ensures.begun at c.write_upgrade.ensures.silent) in
    subst (λ x. KeepsNumbers (state g.S.Store x)) same
    (numbers_survive last (state g.S.Store end) c.drop-tx.ensures.survives (numbers_survive old last quiet.survives numbers))

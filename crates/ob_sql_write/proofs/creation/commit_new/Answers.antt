use Rattle.std.proofs.Common.{◌≡◌, inl, refl, sym, subst, arith, rules, true, IsTrue}
use Rattle.sqlite.specs.State.{HasCleanDisk, Survives}
use Rattle.sqlite.specs.Held.{state}
use Rattle.ob_sql_rows.specs.Schema.{no_schema}
use Rattle.ob_sql_rows.specs.Steps.{Silent}
use Rattle.ob_base.specs.declared.stop.Stop.TheVariants.{Fault}
use Rattle.ob_base.specs.declared.stop.Fault.TheVariants.{Store}
use Rattle.ob_sql_rows.specs.Rules.{IsShort}
use Rattle.ob_sql_write.specs.Keeps.{HasCommitCause, Keeps, KeepsNumbers}
use Rattle.ob_sql_write.proofs.Causes.{handed}
use Rattle.ob_sql_write.proofs.Commits.{silent_begin}
use Rattle.ob_sql_write.specs.NewBook.{new_tables, MakesNew}
use Rattle.ob_sql_write.specs.Begins.{Begins, StaysOrBegins}
use Rattle.ob_sql_write.proofs.Begins.{dropped_new, keeps_new, new_cause, numbered_new, stays_or_begins, survives_new, was_live}
use Rattle.ob_sql_write.proofs.creation.commit_new.Goals as goal

pub returns-in-Ok-clause-done : goal.returns-in-Ok-clause-done
returns-in-Ok-clause-done g c =
    let h = c.args.conn.now in
    let old = state g.S.Store h in
    let last = state g.S.Store c.write_new.new.tx.conn.now in
    let end = c.commit.new.self.0 in
    let tables = new_tables c.args.first_day.now c.args.days c.args.zone.now in
    let same : end ≡ c.conn-2-1.given.0 = search rules in
    let none : old.now.schema ≡ no_schema = search rules in
    let quiet : Silent old last = silent_begin g.S.Store h last (rw c.transaction-tx.ensures.begun at c.write_new.ensures.silent) in
    let makes : HasCleanDisk last → MakesNew tables (record old { in_transaction = true }) last = λ late. (rw c.transaction-tx.ensures.begun at (c.in_ok-write_new.ensures.creates late)) refl in
    subst (λ x. Keeps (state g.S.Store x) tables) same
    (keeps_new old last (state g.S.Store end) tables none quiet makes c.commit.ensures.survives (λ clean. (c.in-Ok.ensures.ok clean).1) (λ live trees may. g.met.S.Store.settled end.store trees live may))

pub returns-in-Ok-clause-live : goal.returns-in-Ok-clause-live
returns-in-Ok-clause-live g c clean =
    let h = c.args.conn.now in
    let old = state g.S.Store h in
    let last = state g.S.Store c.write_new.new.tx.conn.now in
    let end = c.commit.new.self.0 in
    let tables = new_tables c.args.first_day.now c.args.days c.args.zone.now in
    let same : end ≡ c.conn-2-1.given.0 = search rules in
    let none : old.now.schema ≡ no_schema = search rules in
    let quiet : Silent old last = silent_begin g.S.Store h last (rw c.transaction-tx.ensures.begun at c.write_new.ensures.silent) in
    let makes : HasCleanDisk last → MakesNew tables (record old { in_transaction = true }) last = λ late. (rw c.transaction-tx.ensures.begun at (c.in_ok-write_new.ensures.creates late)) refl in
    was_live old last (state g.S.Store end) tables none quiet makes c.commit.ensures.survives (subst (λ x. HasCleanDisk (state g.S.Store x)) (sym same) clean)

pub returns-in-Err-clause-either : goal.returns-in-Err-clause-either
returns-in-Err-clause-either g c =
    let h = c.args.conn.now in
    let old = state g.S.Store h in
    let last = state g.S.Store c.write_new.new.tx.conn.now in
    let end = c.commit.new.self.0 in
    let tables = new_tables c.args.first_day.now c.args.days c.args.zone.now in
    let same : end ≡ c.conn-2-1.given.0 = search rules in
    let none : old.now.schema ≡ no_schema = search rules in
    let quiet : Silent old last = silent_begin g.S.Store h last (rw c.transaction-tx.ensures.begun at c.write_new.ensures.silent) in
    let makes : HasCleanDisk last → MakesNew tables (record old { in_transaction = true }) last = λ late. (rw c.transaction-tx.ensures.begun at (c.in_ok-write_new.ensures.creates late)) refl in
    let settled : IsTrue old.is_open → old.now ≡ old.committed = λ live. c.if-prove.ensures.settled (search rules) live in
    subst (λ x. StaysOrBegins old (state g.S.Store x) tables) same
    (stays_or_begins old last (state g.S.Store end) tables none quiet makes c.commit.ensures.survives _ settled c.in-Err.ensures.err)

pub returns-in-Ok-clause-survives : goal.returns-in-Ok-clause-survives
returns-in-Ok-clause-survives g c =
    let h = c.args.conn.now in
    let old = state g.S.Store h in
    let last = state g.S.Store c.write_new.new.tx.conn.now in
    let end = c.commit.new.self.0 in
    let tables = new_tables c.args.first_day.now c.args.days c.args.zone.now in
    let same : end ≡ c.conn-2-1.given.0 = search rules in
    let none : old.now.schema ≡ no_schema = search rules in
    let quiet : Silent old last = silent_begin g.S.Store h last (rw c.transaction-tx.ensures.begun at c.write_new.ensures.silent) in
    let makes : HasCleanDisk last → MakesNew tables (record old { in_transaction = true }) last = λ late. (rw c.transaction-tx.ensures.begun at (c.in_ok-write_new.ensures.creates late)) refl in
    subst (λ x. Survives old (state g.S.Store x) (Begins old tables)) same
    (survives_new old last (state g.S.Store end) tables none quiet makes c.commit.ensures.survives)

pub returns-in-Err-clause-survives : goal.returns-in-Err-clause-survives
returns-in-Err-clause-survives g c =
    let h = c.args.conn.now in
    let old = state g.S.Store h in
    let last = state g.S.Store c.write_new.new.tx.conn.now in
    let end = c.commit.new.self.0 in
    let tables = new_tables c.args.first_day.now c.args.days c.args.zone.now in
    let same : end ≡ c.conn-2-1.given.0 = search rules in
    let none : old.now.schema ≡ no_schema = search rules in
    let quiet : Silent old last = silent_begin g.S.Store h last (rw c.transaction-tx.ensures.begun at c.write_new.ensures.silent) in
    let makes : HasCleanDisk last → MakesNew tables (record old { in_transaction = true }) last = λ late. (rw c.transaction-tx.ensures.begun at (c.in_ok-write_new.ensures.creates late)) refl in
    subst (λ x. Survives old (state g.S.Store x) (Begins old tables)) same
    (survives_new old last (state g.S.Store end) tables none quiet makes c.commit.ensures.survives)

pub returns-in-Ok-clause-numbered : goal.returns-in-Ok-clause-numbered
returns-in-Ok-clause-numbered g c =
    let h = c.args.conn.now in
    let old = state g.S.Store h in
    let last = state g.S.Store c.write_new.new.tx.conn.now in
    let end = c.commit.new.self.0 in
    let tables = new_tables c.args.first_day.now c.args.days c.args.zone.now in
    let same : end ≡ c.conn-2-1.given.0 = search rules in
    let none : old.now.schema ≡ no_schema = search rules in
    let quiet : Silent old last = silent_begin g.S.Store h last (rw c.transaction-tx.ensures.begun at c.write_new.ensures.silent) in
    let makes : HasCleanDisk last → MakesNew tables (record old { in_transaction = true }) last = λ late. (rw c.transaction-tx.ensures.begun at (c.in_ok-write_new.ensures.creates late)) refl in
    subst (λ x. KeepsNumbers (state g.S.Store x)) same
    (numbered_new old last (state g.S.Store end) tables none quiet makes c.commit.ensures.survives (λ clean. (c.in-Ok.ensures.ok clean).1) (λ live trees may. g.met.S.Store.settled end.store trees live may))

pub returns-in-Err-clause-cause : goal.returns-in-Err-clause-cause
returns-in-Err-clause-cause g c store clean first_short zone_short =
    let h = c.args.conn.now in
    let old = state g.S.Store h in
    let last = state g.S.Store c.write_new.new.tx.conn.now in
    let end = c.commit.new.self.0 in
    let tables = new_tables c.args.first_day.now c.args.days c.args.zone.now in
    let same : end ≡ c.conn-2-1.given.0 = search rules in
    let none : old.now.schema ≡ no_schema = search rules in
    let quiet : Silent old last = silent_begin g.S.Store h last (rw c.transaction-tx.ensures.begun at c.write_new.ensures.silent) in
    let makes : HasCleanDisk last → MakesNew tables (record old { in_transaction = true }) last = λ late. (rw c.transaction-tx.ensures.begun at (c.in_ok-write_new.ensures.creates late)) refl in
    let done : HasCleanDisk (state g.S.Store end) = subst (λ x. HasCleanDisk (state g.S.Store x)) (sym same) clean in
    subst (λ x. HasCommitCause g.S.Store old (state g.S.Store x) tables) same
    (new_cause g.S.Store old c.write_new.new.tx.conn.now (state g.S.Store end) tables none quiet makes c.commit.ensures.survives _ done (c.in-Err.ensures.err done))

pub returns-in_err-write_new-clause-cause : goal.returns-in_err-write_new-clause-cause
returns-in_err-write_new-clause-cause g c =
    let h = c.args.conn.now in
    let old = state g.S.Store h in
    let last = state g.S.Store c.write_new.new.tx.conn.now in
    let end = c.drop-tx.new.self.0 in
    let first_day = c.args.first_day.now in
    let zone = c.args.zone.now in
    let tables = new_tables first_day c.args.days zone in
    let same : end ≡ c.conn-1.given.0 = search rules in
    let none : old.now.schema ≡ no_schema = search rules in
    handed c.from_residual.result _ (λ stop. stop ≡ Fault Store → HasCleanDisk (state g.S.Store c.conn-1.given.0) → IsShort first_day → IsShort zone
    → HasCommitCause g.S.Store old (state g.S.Store c.conn-1.given.0) tables) c.from_residual.ensures.1
    (λ store clean first_short zone_short.
    let done : HasCleanDisk (state g.S.Store end) = subst (λ x. HasCleanDisk (state g.S.Store x)) (sym same) clean in
    let late : HasCleanDisk last = omega (arith, c.drop-tx.ensures.survives.clean, done) in
    subst (λ x. HasCommitCause g.S.Store old (state g.S.Store x) tables) same
    (inl (dropped_new old last (state g.S.Store end) _ first_day zone c.is_empty.ensures.live none first_short zone_short
    ((rw c.transaction-tx.ensures.begun at (c.in_err-write_new.ensures.cause late)) store refl) c.drop-tx.ensures.survives)))

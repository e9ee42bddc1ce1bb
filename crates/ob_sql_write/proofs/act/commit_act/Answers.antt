use Rattle.std.proofs.Common.{◌≡◌, sym, subst, rules}
use Rattle.sqlite.specs.State.{HasCleanDisk, Survives}
use Rattle.sqlite.specs.Held.{state}
use Rattle.ob_sql_write.specs.Acts.{LetsAct, NeedsRows, with_act}
use Rattle.ob_sql_write.specs.Keeps.{HasCommitCause, Keeps, KeepsEither, KeepsNumbers, LeavesChanged}
use Rattle.ob_sql_write.proofs.Acting.{Dropped, act_written, command_stopped, dropped, moves_stopped, rows_stopped}
use Rattle.ob_sql_write.proofs.Causes.{no_value}
use Rattle.ob_sql_write.proofs.Commits.{of_two, committed, failed, failed_cause, numbered_commit, survives_commit}
use Rattle.ob_sql_write.proofs.act.commit_act.Goals as goal

pub returns-in-Ok-clause-done : goal.returns-in-Ok-clause-done
returns-in-Ok-clause-done g c t keeps needed =
    let h = c.args.conn.now in
    let act = c.args.act.now in
    let p = c.args.postings.now in
    let old = state g.S.Store h in
    let last = state g.S.Store c.write_moves.new.tx.conn.now in
    let end = c.commit.new.self.0 in
    let same : end ≡ c.conn-2-1.given.0 = search rules in
    let it = act_written g.S.Store p act h c.transaction-tx.result.conn c.write_rows.new.tx.conn c.add_command.new.tx.conn c.write_moves.new.tx.conn _ _ _ c.transaction-tx.ensures.begun
    c.in_ok-write_rows.ensures c.in_ok-add_command.ensures c.in_ok-write_moves.ensures in
    subst (λ x. Keeps (state g.S.Store x) (with_act p act t)) same
    (committed old last (state g.S.Store end) t (NeedsRows p act) (with_act p act) c.schema-schema.ensures.live keeps needed it.quiet (λ late. of_two (it.makes late)) c.commit.ensures.survives (λ clean. (c.in-Ok.ensures.ok clean).1) (λ live trees may. g.met.S.Store.settled end.store trees live may))

pub returns-in-Err-clause-either : goal.returns-in-Err-clause-either
returns-in-Err-clause-either g c t keeps needed =
    let h = c.args.conn.now in
    let act = c.args.act.now in
    let p = c.args.postings.now in
    let old = state g.S.Store h in
    let last = state g.S.Store c.write_moves.new.tx.conn.now in
    let end = c.commit.new.self.0 in
    let same : end ≡ c.conn-2-1.given.0 = search rules in
    let it = act_written g.S.Store p act h c.transaction-tx.result.conn c.write_rows.new.tx.conn c.add_command.new.tx.conn c.write_moves.new.tx.conn _ _ _ c.transaction-tx.ensures.begun
    c.in_ok-write_rows.ensures c.in_ok-add_command.ensures c.in_ok-write_moves.ensures in
    subst (λ x. KeepsEither (state g.S.Store x) t (with_act p act t)) same
    (failed old last (state g.S.Store end) t (NeedsRows p act) (with_act p act) c.schema-schema.ensures.live keeps needed it.quiet (λ late. of_two (it.makes late)) c.commit.ensures.survives _ c.in-Err.ensures.err)

pub returns-in-Ok-clause-survives : goal.returns-in-Ok-clause-survives
returns-in-Ok-clause-survives g c =
    let h = c.args.conn.now in
    let act = c.args.act.now in
    let p = c.args.postings.now in
    let old = state g.S.Store h in
    let last = state g.S.Store c.write_moves.new.tx.conn.now in
    let end = c.commit.new.self.0 in
    let same : end ≡ c.conn-2-1.given.0 = search rules in
    let it = act_written g.S.Store p act h c.transaction-tx.result.conn c.write_rows.new.tx.conn c.add_command.new.tx.conn c.write_moves.new.tx.conn _ _ _ c.transaction-tx.ensures.begun
    c.in_ok-write_rows.ensures c.in_ok-add_command.ensures c.in_ok-write_moves.ensures in
    subst (λ x. Survives old (state g.S.Store x) (LeavesChanged old (NeedsRows p act) (with_act p act))) same
    (survives_commit old last (state g.S.Store end) (NeedsRows p act) (with_act p act) c.schema-schema.ensures.live it.quiet (λ late. of_two (it.makes late)) c.commit.ensures.survives)

pub returns-in-Err-clause-survives : goal.returns-in-Err-clause-survives
returns-in-Err-clause-survives g c =
    let h = c.args.conn.now in
    let act = c.args.act.now in
    let p = c.args.postings.now in
    let old = state g.S.Store h in
    let last = state g.S.Store c.write_moves.new.tx.conn.now in
    let end = c.commit.new.self.0 in
    let same : end ≡ c.conn-2-1.given.0 = search rules in
    let it = act_written g.S.Store p act h c.transaction-tx.result.conn c.write_rows.new.tx.conn c.add_command.new.tx.conn c.write_moves.new.tx.conn _ _ _ c.transaction-tx.ensures.begun
    c.in_ok-write_rows.ensures c.in_ok-add_command.ensures c.in_ok-write_moves.ensures in
    subst (λ x. Survives old (state g.S.Store x) (LeavesChanged old (NeedsRows p act) (with_act p act))) same
    (survives_commit old last (state g.S.Store end) (NeedsRows p act) (with_act p act) c.schema-schema.ensures.live it.quiet (λ late. of_two (it.makes late)) c.commit.ensures.survives)

pub returns-in-Ok-clause-numbered : goal.returns-in-Ok-clause-numbered
returns-in-Ok-clause-numbered g c t keeps needed numbers =
    let h = c.args.conn.now in
    let act = c.args.act.now in
    let p = c.args.postings.now in
    let old = state g.S.Store h in
    let last = state g.S.Store c.write_moves.new.tx.conn.now in
    let end = c.commit.new.self.0 in
    let same : end ≡ c.conn-2-1.given.0 = search rules in
    let it = act_written g.S.Store p act h c.transaction-tx.result.conn c.write_rows.new.tx.conn c.add_command.new.tx.conn c.write_moves.new.tx.conn _ _ _ c.transaction-tx.ensures.begun
    c.in_ok-write_rows.ensures c.in_ok-add_command.ensures c.in_ok-write_moves.ensures in
    subst (λ x. KeepsNumbers (state g.S.Store x)) same
    (numbered_commit old last (state g.S.Store end) t keeps numbers (λ live. g.met.S.Store.stays h.store live) it.quiet (NeedsRows p act) (with_act p act) needed (λ late. of_two (it.makes late)) c.commit.ensures.survives)

pub returns-in-Err-clause-numbered : goal.returns-in-Err-clause-numbered
returns-in-Err-clause-numbered g c t keeps needed numbers =
    let h = c.args.conn.now in
    let act = c.args.act.now in
    let p = c.args.postings.now in
    let old = state g.S.Store h in
    let last = state g.S.Store c.write_moves.new.tx.conn.now in
    let end = c.commit.new.self.0 in
    let same : end ≡ c.conn-2-1.given.0 = search rules in
    let it = act_written g.S.Store p act h c.transaction-tx.result.conn c.write_rows.new.tx.conn c.add_command.new.tx.conn c.write_moves.new.tx.conn _ _ _ c.transaction-tx.ensures.begun
    c.in_ok-write_rows.ensures c.in_ok-add_command.ensures c.in_ok-write_moves.ensures in
    subst (λ x. KeepsNumbers (state g.S.Store x)) same
    (numbered_commit old last (state g.S.Store end) t keeps numbers (λ live. g.met.S.Store.stays h.store live) it.quiet (NeedsRows p act) (with_act p act) needed (λ late. of_two (it.makes late)) c.commit.ensures.survives)

pub returns-in-Err-clause-cause : goal.returns-in-Err-clause-cause
returns-in-Err-clause-cause g c store clean t keeps numbers needed allowed =
    let h = c.args.conn.now in
    let act = c.args.act.now in
    let p = c.args.postings.now in
    let old = state g.S.Store h in
    let last = state g.S.Store c.write_moves.new.tx.conn.now in
    let end = c.commit.new.self.0 in
    let same : end ≡ c.conn-2-1.given.0 = search rules in
    let it = act_written g.S.Store p act h c.transaction-tx.result.conn c.write_rows.new.tx.conn c.add_command.new.tx.conn c.write_moves.new.tx.conn _ _ _ c.transaction-tx.ensures.begun
    c.in_ok-write_rows.ensures c.in_ok-add_command.ensures c.in_ok-write_moves.ensures in
    let done : HasCleanDisk (state g.S.Store end) = subst (λ x. HasCleanDisk (state g.S.Store x)) (sym same) clean in
    subst (λ x. HasCommitCause g.S.Store old (state g.S.Store x) (with_act p act t)) same
    (failed_cause g.S.Store old c.write_moves.new.tx.conn.now (state g.S.Store end) t (NeedsRows p act) (with_act p act) keeps needed it.quiet (λ late. of_two (it.makes late)) c.commit.ensures.survives _ done (c.in-Err.ensures.err done))

pub returns-in_err-write_rows : goal.returns-in_err-write_rows
returns-in_err-write_rows g c =
    let h = c.args.conn.now in
    let act = c.args.act.now in
    let p = c.args.postings.now in
    let begun = c.transaction-tx.result.conn in
    let end = c.drop-tx.new.self.0 in
    let same : end ≡ c.conn-1.given.0 = search rules in
    let r = c.from_residual.result in
    let stopped = rows_stopped g.S.Store p act begun c.write_rows.new.tx.conn _ c.in_err-write_rows.ensures in
    let it = subst (λ x. Dropped g.S.Store h x r (NeedsRows p act) (LetsAct act) (with_act p act)) same
    (dropped g.S.Store h begun c.write_rows.new.tx.conn end r _ (NeedsRows p act) (LetsAct act) (with_act p act) c.from_residual.ensures.1 c.transaction-tx.ensures.begun c.schema-schema.ensures.live
    (λ live. g.met.S.Store.stays h.store live) stopped c.drop-tx.ensures.undone c.drop-tx.ensures.survives) in
    record { mode = search rules; faults = it.faults; done = no_value r _ _ c.from_residual.ensures.1; undone = it.undone; either = it.either; cause = it.cause; numbered = it.numbered; survives = it.survives }

pub returns-in_err-add_command : goal.returns-in_err-add_command
returns-in_err-add_command g c =
    let h = c.args.conn.now in
    let act = c.args.act.now in
    let p = c.args.postings.now in
    let begun = c.transaction-tx.result.conn in
    let end = c.drop-tx-in_err-add_command.new.self.0 in
    let same : end ≡ c.conn-in_err-add_command-1.given.0 = search rules in
    let r = c.from_residual-in_err-add_command.result in
    let stopped = command_stopped g.S.Store p act begun c.write_rows.new.tx.conn c.add_command.new.tx.conn _ c.in_ok-write_rows.ensures _ c.in_err-add_command.ensures in
    let it = subst (λ x. Dropped g.S.Store h x r (NeedsRows p act) (LetsAct act) (with_act p act)) same
    (dropped g.S.Store h begun c.add_command.new.tx.conn end r _ (NeedsRows p act) (LetsAct act) (with_act p act) c.from_residual-in_err-add_command.ensures.1 c.transaction-tx.ensures.begun c.schema-schema.ensures.live
    (λ live. g.met.S.Store.stays h.store live) stopped c.drop-tx-in_err-add_command.ensures.undone c.drop-tx-in_err-add_command.ensures.survives) in
    record { mode = search rules; faults = it.faults; done = no_value r _ _ c.from_residual-in_err-add_command.ensures.1; undone = it.undone; either = it.either; cause = it.cause; numbered = it.numbered; survives = it.survives }

pub returns-in_err-write_moves : goal.returns-in_err-write_moves
returns-in_err-write_moves g c =
    let h = c.args.conn.now in
    let act = c.args.act.now in
    let p = c.args.postings.now in
    let begun = c.transaction-tx.result.conn in
    let end = c.drop-tx-in_err-write_moves.new.self.0 in
    let same : end ≡ c.conn-in_err-write_moves-1.given.0 = search rules in
    let r = c.from_residual-in_err-write_moves.result in
    let stopped = moves_stopped g.S.Store p act begun c.write_rows.new.tx.conn c.add_command.new.tx.conn _ c.in_ok-write_rows.ensures _ c.in_ok-add_command.ensures c.write_moves.new.tx.conn _ c.in_err-write_moves.ensures in
    let it = subst (λ x. Dropped g.S.Store h x r (NeedsRows p act) (LetsAct act) (with_act p act)) same
    (dropped g.S.Store h begun c.write_moves.new.tx.conn end r _ (NeedsRows p act) (LetsAct act) (with_act p act) c.from_residual-in_err-write_moves.ensures.1 c.transaction-tx.ensures.begun c.schema-schema.ensures.live
    (λ live. g.met.S.Store.stays h.store live) stopped c.drop-tx-in_err-write_moves.ensures.undone c.drop-tx-in_err-write_moves.ensures.survives) in
    record { mode = search rules; faults = it.faults; done = no_value r _ _ c.from_residual-in_err-write_moves.ensures.1; undone = it.undone; either = it.either; cause = it.cause; numbered = it.numbered; survives = it.survives }

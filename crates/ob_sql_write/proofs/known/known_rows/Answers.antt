use Rattle.std.proofs.Common.{◌≡◌, refl, sym, subst, rules, arith}
use Rattle.sqlite.specs.State.{HasCleanDisk, Survives}
use Rattle.sqlite.specs.Held.{state}
use Rattle.ob_sql_rows.specs.Steps.{HasFaultCause, Silent}
use Rattle.ob_sql_rows.proofs.Failing.{cause_before}
use Rattle.ob_sql_write.proofs.Commits.{silent_begin, both_ok, survives_drop}
use Rattle.ob_sql_write.proofs.known.known_rows.Goals as goal

pub returns-clause-found : goal.returns-clause-found
returns-clause-found g c clean =
    let h = c.args.conn.now in
    let old = state g.S.Store h in
    let last = state g.S.Store c.find_commands.new.tx.conn.now in
    let end = c.drop-tx.new.self.0 in
    let same : end ≡ c.conn-1.given.0 = search rules in
    let done : HasCleanDisk (state g.S.Store end) = subst (λ x. HasCleanDisk (state g.S.Store x)) (sym same) clean in
    let late : HasCleanDisk last = omega (arith, c.drop-tx.ensures.survives.clean, done) in
    let quiet : Silent old last = silent_begin g.S.Store h last ((rw c.transaction-tx.ensures.begun at c.find_commands.ensures.reads.silent) refl) in
    let first : HasCleanDisk old = omega (arith, quiet.survives.clean, late) in
    both_ok c.find_commands.result (rw c.transaction-tx.ensures.begun at (c.find_commands.ensures.reads.live late)) (rw c.transaction-tx.ensures.begun at (c.find_commands.ensures.found late))
    (λ rows live found t keeps. let was = keeps.settled first live in found was.schema t was.holds)

pub returns-clause-survives : goal.returns-clause-survives
returns-clause-survives g c =
    let h = c.args.conn.now in
    let old = state g.S.Store h in
    let last = state g.S.Store c.find_commands.new.tx.conn.now in
    let end = c.drop-tx.new.self.0 in
    let same : end ≡ c.conn-1.given.0 = search rules in
    let quiet : Silent old last = silent_begin g.S.Store h last ((rw c.transaction-tx.ensures.begun at c.find_commands.ensures.reads.silent) refl) in
    subst (λ x. Survives old (state g.S.Store x) (λ _. ⊥)) same (survives_drop old last (state g.S.Store end) (λ _. ⊥) quiet c.drop-tx.ensures.survives)

pub returns-clause-cause : goal.returns-clause-cause
returns-clause-cause g c clean has =
    let h = c.args.conn.now in
    let old = state g.S.Store h in
    let last = state g.S.Store c.find_commands.new.tx.conn.now in
    let end = c.drop-tx.new.self.0 in
    let same : end ≡ c.conn-1.given.0 = search rules in
    let done : HasCleanDisk (state g.S.Store end) = subst (λ x. HasCleanDisk (state g.S.Store x)) (sym same) clean in
    let late : HasCleanDisk last = omega (arith, c.drop-tx.ensures.survives.clean, done) in
    let told : HasFaultCause old last c.find_commands.result = (rw c.transaction-tx.ensures.begun at c.find_commands.ensures.cause) late has in
    subst (λ x. HasFaultCause old (state g.S.Store x) c.find_commands.result) same (cause_before old last (state g.S.Store end) _ c.find_commands.result told c.drop-tx.ensures.survives)

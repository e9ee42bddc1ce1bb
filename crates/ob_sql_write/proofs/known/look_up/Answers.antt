use Rattle.std.proofs.lemmas.Result.{IfOk-weaker}
use Rattle.std.proofs.Common.{ℕ, Err, arith}
use Rattle.sqlite.specs.Held.{state}
use Rattle.sqlite.specs.State.{HasCleanDisk}
use Rattle.ob_sql_write.proofs.Failing.{answer_cause, keeper_cause}
use Rattle.ob_sql_write.proofs.Knowing.{one_any, under_any}
use Rattle.ob_sql_write.proofs.known.look_up.Goals as goal

pub returns-in-Ok-clause-found : goal.returns-in-Ok-clause-found
returns-in-Ok-clause-found g c clean =
    let rows = rw c.deref.ensures.value at c.tell.ensures.told in
    IfOk-weaker c.tell.result _ _ (λ known told t keeps. under_any _ c.in-Ok.rows.items c.args.reference.now c.args.body.now known (c.in-Ok.ensures.found clean t keeps) told) rows

pub returns-in-Ok-clause-cause : goal.returns-in-Ok-clause-cause
returns-in-Ok-clause-cause g c clean t keeps one =
    let known = rw c.deref.ensures.value at c.tell.ensures.known in
    answer_cause (state g.S.Store c.args.conn.now) (state g.S.Store c.known_rows.new.conn) c.tell.result (known (one_any _ c.in-Ok.rows.items c.args.reference.now (c.in-Ok.ensures.found clean t keeps) one))

pub returns-in-Err-clause-cause : goal.returns-in-Err-clause-cause
returns-in-Err-clause-cause g c clean t keeps one =
    let old = state g.S.Store c.args.conn.now in
    let first : HasCleanDisk old = omega (arith, c.known_rows.ensures.survives.clean, clean) in
    keeper_cause {X = ℕ} old (state g.S.Store c.known_rows.new.conn) t (Err c.in-Err.stop) first keeps (c.in-Err.ensures.cause clean)

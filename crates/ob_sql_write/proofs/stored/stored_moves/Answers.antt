use Rattle.std.proofs.lemmas.Result.{IfOk-weaker}
use Rattle.std.proofs.Common.{ℕ, Err, arith}
use Rattle.sqlite.specs.Held.{state}
use Rattle.sqlite.specs.State.{HasCleanDisk}
use Rattle.ob_sql_rows.specs.declared.table.Table.TheVariants.{Moved}
use Rattle.ob_sql_rows.proofs.Failing.{no_fault}
use Rattle.ob_sql_write.proofs.Failing.{keeper_cause}
use Rattle.ob_sql_write.proofs.Moving.{all_moves, told_moves}
use Rattle.ob_sql_write.proofs.stored.stored_moves.Goals as goal

pub returns-in-Ok-clause-found : goal.returns-in-Ok-clause-found
returns-in-Ok-clause-found g c clean =
    let told = rw c.deref.ensures.value at c.read_moves.ensures.told in
    IfOk-weaker c.read_moves.result _ _ (λ moves is t keeps expected order same. told_moves _ c.args.no c.in-Ok.rows.items moves.items expected (c.in-Ok.ensures.found clean t keeps) is order same) told

pub returns-in-Ok-clause-cause : goal.returns-in-Ok-clause-cause
returns-in-Ok-clause-cause g c clean t keeps expected same small =
    let readable = rw c.deref.ensures.value at c.read_moves.ensures.readable in
    no_fault (state g.S.Store c.args.conn.now) (state g.S.Store c.moved_rows.new.conn) c.read_moves.result (readable (all_moves c.args.no (t Moved) c.in-Ok.rows.items expected (c.in-Ok.ensures.found clean t keeps) same small))

pub returns-in-Err-clause-cause : goal.returns-in-Err-clause-cause
returns-in-Err-clause-cause g c clean t keeps expected same small =
    let old = state g.S.Store c.args.conn.now in
    let first : HasCleanDisk old = omega (arith, c.moved_rows.ensures.survives.clean, clean) in
    keeper_cause {X = ℕ} old (state g.S.Store c.moved_rows.new.conn) t (Err c.in-Err.stop) first keeps (c.in-Err.ensures.cause clean)

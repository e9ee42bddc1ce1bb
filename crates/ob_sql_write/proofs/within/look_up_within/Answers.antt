use Rattle.std.proofs.lemmas.Result.{IfOk-weaker}
use Rattle.sqlite.specs.Held.{state}
use Rattle.ob_sql_write.proofs.Failing.{answer_cause}
use Rattle.ob_sql_write.proofs.Knowing.{one_any, under_any}
use Rattle.ob_sql_write.proofs.Looking.{passed, told, told_fault}
use Rattle.ob_sql_write.proofs.within.look_up_within.Goals as goal

pub returns-in-Ok-clause-looks : goal.returns-in-Ok-clause-looks
returns-in-Ok-clause-looks g c =
    told g.S.Store c.args.tx.now.conn c.rows_under.new.tx.conn c.in-Ok.rows c.tell.result (told_fault c.tell.result c.tell.ensures.fault) c.in-Ok.ensures.looks

pub returns-in-Ok-clause-found : goal.returns-in-Ok-clause-found
returns-in-Ok-clause-found g c clean =
    let rows = rw c.deref.ensures.value at c.tell.ensures.told in
    IfOk-weaker c.tell.result _ _ (λ known told has t holds. under_any _ c.in-Ok.rows.items c.args.reference.now c.args.body.now known (c.in-Ok.ensures.found clean has t holds) told) rows

pub returns-in-Ok-clause-cause : goal.returns-in-Ok-clause-cause
returns-in-Ok-clause-cause g c clean has t holds one =
    let known = rw c.deref.ensures.value at c.tell.ensures.known in
    answer_cause (state g.S.Store c.args.tx.now.conn.now) (state g.S.Store c.rows_under.new.tx.conn.now) c.tell.result (known (one_any _ c.in-Ok.rows.items c.args.reference.now (c.in-Ok.ensures.found clean has t holds) one))

pub returns-in-Err-clause-looks : goal.returns-in-Err-clause-looks
returns-in-Err-clause-looks g c = passed g.S.Store c.args.tx.now.conn c.rows_under.new.tx.conn c.in-Err.stop c.in-Err.ensures.looks

use Rattle.std.proofs.Common.{◌≡◌, arith, true, false, nat_lt}
use Rattle.std.proofs.lemmas.Bool.{lt-ltb, le-ltb}
use Rattle.std.proofs.lemmas.Result.{err_from_is_err_and}
use Rattle.ob_csv.specs.RowReading.{rows_left}
use Rattle.ob_total.specs.Totals.{total_from}
use Rattle.ob_total.proofs.TotalLaws.{says_done, says_more, says_stop, says_full}
use Rattle.ob_total.proofs.total.total_after.Goals as goal

pub returns-then-not-found-clause-said : goal.returns-then-not-found-clause-said
returns-then-not-found-clause-said g c =
    let left = rows_left g.R.Read.remaining in
    let takes = rw c.if-not-found.true at c.in_ok-found.ensures.takes in
    says_done (total_from 2 c.args.world.now) c.loop-number.number c.loop-number.world (left c.args.rows.now) (left c.loop-number.rows) (left c.take_row.new.rows) c.take_row.new.row c.total_of_world.result
    c.loop-number.invariant takes c.total_of_world.ensures.total c.total_of_world.ensures.stop

pub returns-in_err-act_row-clause-said : goal.returns-in_err-act_row-clause-said
returns-in_err-act_row-clause-said g c =
    let left = rows_left g.R.Read.remaining in
    let takes = rw c.if-not-found.false at c.in_ok-found.ensures.takes in
    let fits : nat_lt 1000000 c.loop-number.number ≡ false = le-ltb 1000000 c.loop-number.number (omega arith) in
    let p = err_from_is_err_and c.from_residual-in_err-act_row.result c.from_residual-in_err-act_row.ensures.1 in
    rw (p.1, p.2)
    (says_stop (total_from 2 c.args.world.now) c.loop-number.number c.loop-number.world (left c.args.rows.now) (left c.loop-number.rows) (left c.take_row.new.rows) c.take_row.new.row c.in_err-act_row.field-0.0
    fits c.loop-number.invariant takes c.in_err-act_row.ensures.stop)

pub loop-number-preserved : goal.loop-number-preserved
loop-number-preserved g c =
    let left = rows_left g.R.Read.remaining in
    let takes = rw c.if-not-found.false at c.in_ok-found.ensures.takes in
    let fits : nat_lt 1000000 c.loop-number.number ≡ false = le-ltb 1000000 c.loop-number.number (omega arith) in
    says_more (total_from 2 c.args.world.now) c.loop-number.number c.loop-number.world c.act_row.new.world (left c.args.rows.now) (left c.loop-number.rows) (left c.take_row.new.rows) c.take_row.new.row
    fits c.loop-number.invariant takes c.in_ok-act_row.ensures.ok

pub returns-then-found-clause-said : goal.returns-then-found-clause-said
returns-then-found-clause-said g c =
    let left = rows_left g.R.Read.remaining in
    let takes = rw c.if-found.true at c.in_ok-found-2.ensures.takes in
    let at : c.loop-number.number ≡ 1000001 = omega arith in
    let past : nat_lt 1000000 c.loop-number.number ≡ true = lt-ltb 1000000 c.loop-number.number (omega arith) in
    says_full (total_from 2 c.args.world.now) c.loop-number.number c.loop-number.world (left c.args.rows.now) (left c.loop-number.rows) (left c.take_row-2.new.rows) c.take_row-2.new.row c.refused_stop.result
    past c.loop-number.invariant takes c.refused_stop.ensures.stop (rw at c.refused_stop.ensures.row)

pub returns-clause-said : goal.returns-clause-said
returns-clause-said g c =
    let left = rows_left g.R.Read.remaining in
    let takes = rw c.if-found.false at c.in_ok-found-2.ensures.takes in
    says_done (total_from 2 c.args.world.now) c.loop-number.number c.loop-number.world (left c.args.rows.now) (left c.loop-number.rows) (left c.take_row-2.new.rows) c.take_row-2.new.row c.total_of_world-2.result
    c.loop-number.invariant takes c.total_of_world-2.ensures.total c.total_of_world-2.ensures.stop

use Rattle.std.proofs.lemmas.Result.{err_from_is_err_and}
use Rattle.ob_csv.specs.RowReading.{rows_left}
use Rattle.ob_total.proofs.TotalLaws.{says_body, says_no_span}
use Rattle.ob_total.proofs.total.total_of_rows.Goals as goal

pub returns-in_err-world-clause-said : goal.returns-in_err-world-clause-said
returns-in_err-world-clause-said g c =
    let left = rows_left g.R.Read.remaining in
    let takes = rw c.if-not-found.false at c.in_ok-found.ensures.takes in
    let p = err_from_is_err_and c.from_residual-in_err-world.result c.from_residual-in_err-world.ensures.1 in
    rw (p.1, p.2)
    (says_no_span (left c.args.rows.now) (left c.take_row.new.rows) c.take_row.new.row c.in_err-world.field-0.0 takes c.in_err-world.ensures.stop)

pub returns-clause-said : goal.returns-clause-said
returns-clause-said g c =
    let left = rows_left g.R.Read.remaining in
    let takes = rw c.if-not-found.false at c.in_ok-found.ensures.takes in
    says_body c.in_ok-world.world (left c.args.rows.now) (left c.take_row.new.rows) c.take_row.new.row c.total_after.result takes c.in_ok-world.ensures.ok c.total_after.ensures.said

use Rattle.std.proofs.Common.{◌<◌, length, sym, subst, arith, true≢false}
use Rattle.ob_sql_write.specs.Stored.{IsMoveOf}
use Rattle.ob_sql_write.proofs.Moving.{one_more}
use Rattle.ob_sql_write.proofs.stored.read_moves.Goals as goal

pub rows-init : goal.rows-init
rows-init c = rw c.new-moves.ensures.items

pub rows-preserved : goal.rows-preserved
rows-preserved c =
    let low : c.rows.row-index < length c.args.rows.now = omega (arith, c.rows-test.true) in
    rw c.in_ok-push.ensures.items
    (one_more c.args.no c.args.rows.now c.rows.moves.items c.rows.row-index c.row-item.result c.in_ok-read_move.field-0 low c.row-item.is c.in_ok-read_move.ensures.told c.rows.invariant)

pub returns-in_err-read_move-clause-readable : goal.returns-in_err-read_move-clause-readable
returns-in_err-read_move-clause-readable c all =
    let low : c.rows.row-index < length c.args.rows.now = omega (arith, c.rows-test.true) in
    absurd (true≢false (sym (c.in_err-read_move.ensures.readable (subst (IsMoveOf c.args.no) (sym c.row-item.is) (all c.rows.row-index c.row-item.result low)))))

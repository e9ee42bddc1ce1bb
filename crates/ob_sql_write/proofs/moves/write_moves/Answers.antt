use Rattle.std.proofs.Common.{length, ap, arith}
use Rattle.ob_sql_rows.specs.Rows.{Always, Tables}
use Rattle.ob_sql_rows.specs.Rules.{HasKey, HasRoom}
use Rattle.ob_sql_rows.specs.declared.table.Table.TheVariants.{Command, Posting}
use Rattle.ob_sql_write.specs.Moves.{HasAmounts, HasRows, LetsMoves, LetsRows, with_amounts, with_moves, with_rows}
use Rattle.ob_sql_write.proofs.Causes.{lets_weaker, of_open, open_stopped, open_then, stopped_first}
use Rattle.ob_sql_write.proofs.Turns.{amounts_left, both_are_moves, has_amounts, lets_rows, open_alike}
use Rattle.ob_sql_write.proofs.moves.write_moves.Goals as goal

pub returns : goal.returns
returns g c =
    let id = c.args.no in
    let p = c.args.postings.now in
    let moves = c.args.moves.now in
    let lets : Tables → Type 0 = λ t. HasKey Command id t × LetsMoves id moves t in
    open_alike g.S.Store c.args.tx.now.conn c.set_amounts.new.tx.conn c.set_amounts.result (HasRows id p moves) lets (λ t. with_amounts p moves (with_rows id moves t)) (with_moves id p moves) (both_are_moves id p moves)
    (open_then g.S.Store c.args.tx.now.conn c.add_rows.new.tx.conn c.set_amounts.new.tx.conn c.set_amounts.result Always (HasRows id p moves) lets (HasAmounts p moves) (HasRoom Posting) (with_rows id moves) (with_amounts p moves)
    c.in_ok-add_rows.ensures.same_reference c.in_ok-add_rows.ensures.silent c.in_ok-add_rows.ensures.makes c.set_amounts.ensures
    (λ t has. (tt, has_amounts id p moves t (with_rows id moves t) (amounts_left id moves t) has))
    (λ t has it. omega (arith, ap length (amounts_left id moves t), it.1.amounts)))

pub returns-in_err-add_rows : goal.returns-in_err-add_rows
returns-in_err-add_rows g c =
    let id = c.args.no in
    let p = c.args.postings.now in
    let moves = c.args.moves.now in
    let lets : Tables → Type 0 = λ t. HasKey Command id t × LetsMoves id moves t in
    open_stopped g.S.Store c.args.tx.now.conn c.add_rows.new.tx.conn c.from_residual.result _ c.from_residual.ensures.1
    (stopped_first g.S.Store _ _ _ (lets_weaker _ (HasRows id p moves) lets Always (LetsRows id moves) (λ t has it. (tt, lets_rows id moves t it.0 it.1)))
    (of_open g.S.Store _ _ _ c.in_err-add_rows.ensures))

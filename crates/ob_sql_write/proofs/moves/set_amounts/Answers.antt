use Rattle.std.proofs.Common.{◌<◌, ◌+◌, ◌∷◌, length, take, drop, get_or, ◌∙◌, sym, subst, arith}
use Rattle.std.proofs.lemmas.List.{take_all, take_more}
use Rattle.sqlite.specs.State.{HasCleanDisk}
use Rattle.sqlite.specs.Held.{state}
use Rattle.ob_post.specs.Keys.{dim_number}
use Rattle.ob_sql_rows.specs.Rows.{HasPosting}
use Rattle.ob_sql_rows.specs.Rules.{HasRoom}
use Rattle.ob_sql_rows.specs.Steps.{Makes}
use Rattle.ob_sql_rows.specs.declared.table.Table.TheVariants.{Posting}
use Rattle.ob_sql_rows.proofs.Silence.{silent_then}
use Rattle.ob_sql_write.specs.Moves.{HasAmounts, with_amount_of, with_amounts}
use Rattle.ob_sql_write.proofs.Causes.{lets_then, of_change, open_stopped, stopped_after}
use Rattle.ob_sql_write.proofs.Turns.{as_many_amounts, has_parts, more_amounts, one_part}
use Rattle.ob_sql_write.proofs.moves.set_amounts.Goals as goal

pub moves-preserved : goal.moves-preserved
moves-preserved g c =
    let p = c.args.postings.now in
    let moves = c.args.moves.now in
    let at = c.moves.at in
    let old = state g.S.Store c.args.tx.now.conn.now in
    let mid = state g.S.Store c.moves.tx.conn.now in
    let new = state g.S.Store c.set_posting.new.tx.conn.now in
    let step = c.set_posting.ensures in
    let low : at < length moves = omega (arith, c.moves-test.true) in (
      step.same_reference ∙ c.moves.invariant.0,
      silent_then old mid new c.moves.invariant.1 step.silent,
      λ late live inside.
          let early : HasCleanDisk mid = omega (arith, step.silent.survives.clean, late) in
          let was = c.moves.invariant.2 early live inside in
          let m = get_or moves at _ in
          let one : Makes mid new (HasPosting (dim_number m.dim) m.key) (with_amount_of p m) =
          rw (c.amount_of-dim.ensures, c.amount_after-amount.ensures.value) at (c.in_ok-set_posting.ensures.makes late was.inside) in
          subst (λ l. Makes old new (HasAmounts p l) (with_amounts p l)) (sym (take_more moves at _ low)) (more_amounts old mid new p (take at moves) m was one),
    )

pub returns-in_err-set_posting : goal.returns-in_err-set_posting
returns-in_err-set_posting g c =
    let p = c.args.postings.now in
    let moves = c.args.moves.now in
    let at = c.moves.at in
    let old = state g.S.Store c.args.tx.now.conn.now in
    let mid = state g.S.Store c.moves.tx.conn.now in
    let low : at < length moves = omega (arith, c.moves-test.true) in
    open_stopped g.S.Store c.args.tx.now.conn c.set_posting.new.tx.conn c.from_residual.result _ c.from_residual.ensures.1
    (stopped_after g.S.Store c.args.tx.now.conn c.moves.tx.conn c.set_posting.new.tx.conn _ c.moves.invariant.0 c.moves.invariant.1
    (of_change g.S.Store _ _ _ (rw c.amount_of-dim.ensures at c.in_err-set_posting.ensures))
    (λ early live inside allowed.
    let was = c.moves.invariant.2 early live inside in (
      was.inside,
      lets_then old mid (HasAmounts p (take at moves)) (HasAmounts p moves) (HasRoom Posting) _ _ (with_amounts p (take at moves))
          (λ t has it.
          let parts = has_parts p (take at moves) (get_or moves at _ ∷ drop (at + 1) moves) t (subst (λ l. HasAmounts p l t) (one_part moves at _ low) has) in
          (parts.0, parts.1.0, omega (arith, as_many_amounts p (take at moves) t, it))) was allowed,
    )))

pub returns : goal.returns
returns g c =
    let p = c.args.postings.now in
    let moves = c.args.moves.now in
    let old = state g.S.Store c.args.tx.now.conn.now in
    let now = state g.S.Store c.moves.tx.conn.now in
    record {
      same_reference = c.moves.invariant.0;
      silent = c.moves.invariant.1;
      faults = tt;
      makes = λ clean live inside.
          subst (λ l. Makes old now (HasAmounts p l) (with_amounts p l)) (take_all c.moves.at moves (omega (arith, c.moves-test.false))) (c.moves.invariant.2 clean live inside);
      cause = λ clean. tt;
    }

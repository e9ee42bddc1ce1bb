use Rattle.std.proofs.Common.{◌<◌, ◌+◌, [], ◌∷◌, length, take, drop, get_or, ◌∙◌, sym, subst, arith, rules, to_z-of_z, w64, FitsSigned}
use Rattle.std.proofs.lemmas.List.{take_more}
use Rattle.sqlite.specs.State.{HasCleanDisk}
use Rattle.sqlite.specs.Held.{state}
use Rattle.ob_sql_rows.specs.Rows.{Always}
use Rattle.ob_sql_rows.specs.Steps.{Makes}
use Rattle.ob_sql_rows.proofs.Silence.{silent_then}
use Rattle.ob_sql_write.specs.Moves.{LetsRows, with_rows}
use Rattle.ob_sql_write.proofs.Causes.{lets_then, of_change, open_stopped, stopped_after}
use Rattle.ob_sql_write.proofs.Turns.{lets_later, more_rows, one_part}
use Rattle.ob_sql_write.proofs.moves.add_each.Goals as goal

pub moves-preserved : goal.moves-preserved
moves-preserved g c =
    let id = c.args.no in
    let moves = c.args.moves.now in
    let at = c.moves.at in
    let old = state g.S.Store c.args.tx.now.conn.now in
    let mid = state g.S.Store c.moves.tx.conn.now in
    let new = state g.S.Store c.add_moved.new.tx.conn.now in
    let step = c.add_moved.ensures in
    let low : at < length moves = omega (arith, c.moves-test.true) in
    let fits : FitsSigned w64 c.amount_of-dim.result.delta = search rules in (
      step.same_reference ∙ c.moves.invariant.0,
      silent_then old mid new c.moves.invariant.1 step.silent,
      λ late live inside.
          let early : HasCleanDisk mid = omega (arith, step.silent.survives.clean, late) in
          let was = c.moves.invariant.2 early live inside in
          let one : Makes mid new Always (with_rows id (get_or moves at _ ∷ [])) = rw (to_z-of_z fits, c.amount_of-dim.ensures) at (c.in_ok-add_moved.ensures.makes late was.inside) in
          subst (λ l. Makes old new Always (with_rows id l)) (sym (take_more moves at _ low)) (more_rows old mid new id (take at moves) (get_or moves at _ ∷ []) was one),
    )

pub returns-in_err-add_moved : goal.returns-in_err-add_moved
returns-in_err-add_moved g c =
    let id = c.args.no in
    let moves = c.args.moves.now in
    let at = c.moves.at in
    let old = state g.S.Store c.args.tx.now.conn.now in
    let mid = state g.S.Store c.moves.tx.conn.now in
    let low : at < length moves = omega (arith, c.moves-test.true) in
    let fits : FitsSigned w64 c.amount_of-dim.result.delta = search rules in
    open_stopped g.S.Store c.args.tx.now.conn c.add_moved.new.tx.conn c.from_residual.result _ c.from_residual.ensures.1
    (stopped_after g.S.Store c.args.tx.now.conn c.moves.tx.conn c.add_moved.new.tx.conn _ c.moves.invariant.0 c.moves.invariant.1
    (of_change g.S.Store _ _ _ (rw (to_z-of_z fits, c.amount_of-dim.ensures) at c.in_err-add_moved.ensures))
    (λ early live inside allowed.
    let was = c.moves.invariant.2 early live inside in (
      was.inside,
      lets_then old mid Always Always (LetsRows id moves) _ _ (with_rows id (take at moves))
          (λ t _ it. (tt, tt, (lets_later id (take at moves) (get_or moves at _ ∷ drop (at + 1) moves) t (subst (λ l. LetsRows id l t) (one_part moves at _ low) it)).0)) was allowed,
    )))

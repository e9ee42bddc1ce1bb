use Rattle.std.proofs.Common.{◌≡◌, ◌+◌, ◌*◌, ◌/◌, ℕ, ◌++◌, length, take, drop, slice_range, ◌∙◌, sym, subst, arith}
use Rattle.sqlite.specs.State.{HasCleanDisk}
use Rattle.sqlite.specs.Held.{state}
use Rattle.ob_sql_rows.specs.Rows.{Always}
use Rattle.ob_sql_rows.specs.Steps.{Makes}
use Rattle.ob_sql_rows.proofs.Silence.{silent_then}
use Rattle.ob_sql_write.specs.Keeps.{ChangesOpen}
use Rattle.ob_sql_write.specs.Moves.{LetsRows, with_rows}
use Rattle.ob_sql_write.proofs.Causes.{lets_then, of_change, open_stopped, open_then, stopped_after}
use Rattle.ob_sql_write.proofs.Turns.{both_parts, last_part, lets_first, lets_later, lets_others, more_rows, next_part, open_alike, some_part}
use Rattle.ob_sql_write.proofs.moves.add_rows.Goals as goal

pub rows-preserved : goal.rows-preserved
rows-preserved g c =
    let id = c.args.no in
    let moves = c.args.moves.now in
    let at : ℕ = 8 * c.rows.block in
    let end : ℕ = 8 * c.rows.block + 8 in
    let old = state g.S.Store c.args.tx.now.conn.now in
    let mid = state g.S.Store c.rows.tx.conn.now in
    let new = state g.S.Store c.add_moved_block.new.tx.conn.now in
    let step = c.add_moved_block.ensures in (
      step.same_reference ∙ c.rows.invariant.0,
      silent_then old mid new c.rows.invariant.1 step.silent,
      λ late live inside.
          let early : HasCleanDisk mid = omega (arith, step.silent.survives.clean, late) in
          let was = c.rows.invariant.2 early live inside in
          let some : Makes mid new Always (with_rows id (slice_range moves at end)) = rw c.amounts_of-eight.ensures at (c.in_ok-add_moved_block.ensures.makes late was.inside) in
          let all : Makes old new Always (with_rows id (take end moves)) =
          subst (λ l. Makes old new Always (with_rows id l)) (sym (next_part moves at end (omega arith))) (more_rows old mid new id (take at moves) (slice_range moves at end) was some) in
          let next : end ≡ 8 * (c.rows.block + 1) = omega arith in
          subst (λ n. Makes old new Always (with_rows id (take n moves))) next all,
    )

pub returns-in_err-add_moved_block : goal.returns-in_err-add_moved_block
returns-in_err-add_moved_block g c =
    let id = c.args.no in
    let moves = c.args.moves.now in
    let at : ℕ = 8 * c.rows.block in
    let end : ℕ = 8 * c.rows.block + 8 in
    let old = state g.S.Store c.args.tx.now.conn.now in
    let mid = state g.S.Store c.rows.tx.conn.now in
    open_stopped g.S.Store c.args.tx.now.conn c.add_moved_block.new.tx.conn c.from_residual.result _ c.from_residual.ensures.1
    (stopped_after g.S.Store c.args.tx.now.conn c.rows.tx.conn c.add_moved_block.new.tx.conn _ c.rows.invariant.0 c.rows.invariant.1
    (of_change g.S.Store _ _ _ (rw c.amounts_of-eight.ensures at c.in_err-add_moved_block.ensures))
    (λ early live inside allowed.
    let was = c.rows.invariant.2 early live inside in (
      was.inside,
      lets_then old mid Always Always (LetsRows id moves) Always (LetsRows id (slice_range moves at end)) (with_rows id (take at moves))
          (λ t _ it. (
            tt,
            tt,
            lets_first id (slice_range moves at end) (drop end moves) (with_rows id (take at moves) t)
                (lets_later id (take at moves) (slice_range moves at end ++ drop end moves) t (subst (λ l. LetsRows id l t) (some_part moves at end (omega arith)) it)),
          )) was allowed,
    )))

pub returns : goal.returns
returns g c =
    let id = c.args.no in
    let moves = c.args.moves.now in
    let blocks : ℕ = 8 * (length moves / 8) in
    let old = state g.S.Store c.args.tx.now.conn.now in
    let mid = state g.S.Store c.rows.tx.conn.now in
    let all : 8 * c.rows.block ≡ blocks = omega (arith, c.rows-test.false, c.rows.auto.block-end) in
    open_alike g.S.Store c.args.tx.now.conn c.add_each.new.tx.conn c.add_each.result Always (LetsRows id moves) (λ t. with_rows id (drop blocks moves) (with_rows id (take blocks moves) t)) (with_rows id moves)
    (both_parts id moves blocks)
    (open_then g.S.Store c.args.tx.now.conn c.rows.tx.conn c.add_each.new.tx.conn c.add_each.result Always Always (LetsRows id moves) Always (LetsRows id (drop blocks moves)) (with_rows id (take blocks moves))
    (with_rows id (drop blocks moves)) c.rows.invariant.0 c.rows.invariant.1
    (λ clean live inside. subst (λ n. Makes old mid Always (with_rows id (take n moves))) all (c.rows.invariant.2 clean live inside))
    (subst (λ l. ChangesOpen g.S.Store c.rows.tx.conn c.add_each.new.tx.conn c.add_each.result Always (LetsRows id l) (with_rows id l)) (last_part moves blocks) c.add_each.ensures) (λ t _. (tt, tt)) (λ t _ it. lets_others id moves blocks t it))

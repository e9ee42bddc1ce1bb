use Rattle.std.proofs.Common.{◌<◌, length, take, ◌∙◌, refl, arith}
use Rattle.sqlite.specs.State.{HasCleanDisk}
use Rattle.sqlite.specs.Held.{state}
use Rattle.ob_sql_rows.proofs.Silence.{silent_same, silent_then}
use Rattle.ob_sql_rows.specs.Rows.{HasCommand}
use Rattle.ob_sql_rows.specs.Rules.{LetsBody}
use Rattle.ob_sql_write.specs.Upgrade.{HasBodies, LetsBodies, with_bodies}
use Rattle.ob_sql_write.proofs.Causes.{lets_then, of_change, open_stopped, stopped_after}
use Rattle.ob_sql_write.proofs.Letting.{body_turn}
use Rattle.ob_sql_write.proofs.Upgrading.{next_body}
use Rattle.ob_sql_write.proofs.upgrade.write_bodies.Goals as goal

pub bodies-init : goal.bodies-init
bodies-init g c = (refl, silent_same (state g.S.Store c.args.tx.now.conn.now), λ clean live inside. record { live = live; stays = live; inside = inside; schema = λ has. has; sound = λ has whole. whole; holds = λ has t held needs. held; numbered = λ has t held needs are. are })

pub bodies-preserved : goal.bodies-preserved
bodies-preserved g c =
    let old = state g.S.Store c.args.tx.now.conn.now in
    let mid = state g.S.Store c.bodies.tx.conn.now in
    let new = state g.S.Store c.set_body.new.tx.conn.now in
    let step = c.set_body.ensures in
    let low : c.bodies.at < length c.args.bodies.now = omega (arith, c.bodies-test.true) in (
      step.same_reference ∙ c.bodies.invariant.0,
      silent_then old mid new c.bodies.invariant.1 step.silent,
      λ late live inside.
          let early : HasCleanDisk mid = omega (arith, step.silent.survives.clean, late) in
          let was = c.bodies.invariant.2 early live inside in
          next_body old mid new c.args.bodies.now c.bodies.at c.index-bodies-at.result low c.index-bodies-at.is was (rw c.deref.ensures.value at (c.in_ok-set_body.ensures.makes late was.inside)),
    )

pub returns-in_err-set_body : goal.returns-in_err-set_body
returns-in_err-set_body g c =
    let bodies = c.args.bodies.now in
    let at = c.bodies.at in
    let b = c.index-bodies-at.result in
    let old = state g.S.Store c.args.tx.now.conn.now in
    let mid = state g.S.Store c.bodies.tx.conn.now in
    let low : at < length bodies = omega (arith, c.bodies-test.true) in
    open_stopped g.S.Store c.args.tx.now.conn c.set_body.new.tx.conn c.from_residual.result _ c.from_residual.ensures.1
    (stopped_after g.S.Store c.args.tx.now.conn c.bodies.tx.conn c.set_body.new.tx.conn _ c.bodies.invariant.0 c.bodies.invariant.1
    (of_change g.S.Store _ _ _ (rw c.deref.ensures.value at c.in_err-set_body.ensures))
    (λ early live inside allowed.
    let was = c.bodies.invariant.2 early live inside in (
      was.inside,
      lets_then old mid (HasBodies (take at bodies)) (HasBodies bodies) (LetsBodies bodies) (HasCommand b.no) (LetsBody b.no b.body.items) (with_bodies (take at bodies))
          (λ t has it. body_turn bodies at b t low c.index-bodies-at.is has it) was allowed,
    )))

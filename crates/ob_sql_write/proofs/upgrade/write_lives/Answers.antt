use Rattle.std.proofs.Common.{◌<◌, ◌∙◌, refl, arith}
use Rattle.sqlite.specs.State.{HasCleanDisk}
use Rattle.sqlite.specs.Held.{state}
use Rattle.ob_sql_rows.proofs.Silence.{silent_same, silent_then}
use Rattle.ob_sql_rows.specs.Rows.{Always}
use Rattle.ob_sql_rows.specs.Rules.{LetsLife}
use Rattle.ob_sql_write.specs.Upgrade.{LetsLivesOf, with_lives}
use Rattle.ob_sql_write.proofs.Causes.{lets_then, of_change, open_stopped, stopped_after}
use Rattle.ob_sql_write.proofs.Letting.{lets_life}
use Rattle.ob_sql_write.proofs.Upgrading.{next_life}
use Rattle.ob_sql_write.proofs.upgrade.write_lives.Goals as goal

pub lives-init : goal.lives-init
lives-init g c = (refl, silent_same (state g.S.Store c.args.tx.now.conn.now), λ clean live inside. record { live = live; stays = live; inside = inside; schema = λ has. has; sound = λ has whole. whole; holds = λ has t held needs. held; numbered = λ has t held needs are. are })

pub lives-preserved : goal.lives-preserved
lives-preserved g c =
    let old = state g.S.Store c.args.tx.now.conn.now in
    let mid = state g.S.Store c.lives.tx.conn.now in
    let new = state g.S.Store c.add_life.new.tx.conn.now in
    let step = c.add_life.ensures in (
      step.same_reference ∙ c.lives.invariant.0,
      silent_then old mid new c.lives.invariant.1 step.silent,
      λ late live inside.
          let early : HasCleanDisk mid = omega (arith, step.silent.survives.clean, late) in
          let was = c.lives.invariant.2 early live inside in
          next_life old mid new c.lives.at was (c.in_ok-add_life.ensures.makes late was.inside),
    )

pub returns-in_err-add_life : goal.returns-in_err-add_life
returns-in_err-add_life g c =
    let devices = c.args.devices in
    let at = c.lives.at in
    let old = state g.S.Store c.args.tx.now.conn.now in
    let mid = state g.S.Store c.lives.tx.conn.now in
    let low : at < devices = omega (arith, c.lives-test.true) in
    open_stopped g.S.Store c.args.tx.now.conn c.add_life.new.tx.conn c.from_residual.result _ c.from_residual.ensures.1
    (stopped_after g.S.Store c.args.tx.now.conn c.lives.tx.conn c.add_life.new.tx.conn _ c.lives.invariant.0 c.lives.invariant.1 (of_change g.S.Store _ _ _ c.in_err-add_life.ensures)
    (λ early live inside allowed.
    let was = c.lives.invariant.2 early live inside in
    (was.inside, lets_then old mid Always Always (LetsLivesOf devices) Always (LetsLife at) (with_lives at) (λ t any it. (tt, tt, lets_life devices at t low it)) was allowed)))

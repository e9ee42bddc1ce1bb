use Rattle.std.proofs.Common.{◌∙◌, arith}
use Rattle.sqlite.specs.State.{HasCleanDisk}
use Rattle.sqlite.specs.Held.{state}
use Rattle.ob_sql_rows.specs.Rows.{Always, HasHeading, with_change, reversion}
use Rattle.ob_sql_rows.specs.declared.table.Table.TheVariants.{Meta}
use Rattle.ob_sql_rows.proofs.Silence.{silent_then}
use Rattle.ob_sql_rows.specs.Rules.{LetsVersion}
use Rattle.ob_sql_write.specs.Upgrade.{CanUpgrade, HasBodies, LetsBodies, LetsLivesOf, LetsUpgrade, LetsUpgradeIn, with_bodies, with_lives, with_rows}
use Rattle.ob_sql_write.proofs.Causes.{last_cause, lets_then, lets_weaker, of_creation, of_open, stopped_after, stopped_first, upgrade_stopped}
use Rattle.ob_sql_write.proofs.Letting.{lets_lives, lets_version}
use Rattle.ob_sql_write.proofs.Steps.{on_ok, makes_then}
use Rattle.ob_sql_write.proofs.Upgrading.{LetsRest, NeedsRest, lets_over, then_rows}
use Rattle.ob_sql_write.proofs.upgrade.write_upgrade.Goals as goal

pub returns : goal.returns
returns g c =
    let old = state g.S.Store c.args.tx.now.conn.now in
    let one = state g.S.Store c.create_life.new.tx.conn.now in
    let two = state g.S.Store c.write_bodies.new.tx.conn.now in
    let three = state g.S.Store c.write_lives.new.tx.conn.now in
    let new = state g.S.Store c.set_version.new.tx.conn.now in
    let bodies = c.args.bodies.now in
    let n = c.args.devices in
    let head = with_change Meta 1 (reversion 2) in
    let last = c.set_version.ensures in
    let quiet3 = silent_then two three new c.write_lives.ensures.silent last.silent in
    let quiet2 = silent_then one two new c.write_bodies.ensures.silent quiet3 in
    record {
      same_reference = last.same_reference ∙ (c.write_lives.ensures.same_reference ∙ (c.write_bodies.ensures.same_reference ∙ c.create_life.ensures.same_reference));
      silent = silent_then old one new c.create_life.ensures.silent quiet2;
      faults = last.faults;
      makes = λ clean.
          let late : HasCleanDisk three = omega (arith, last.silent.survives.clean, clean) in
          let mid : HasCleanDisk two = omega (arith, quiet3.survives.clean, clean) in
          let early : HasCleanDisk one = omega (arith, quiet2.survives.clean, clean) in
          on_ok c.set_version.result (last.makes clean) (λ versioned inside.
          let made = c.in_ok-create_life.ensures.creates early inside in
          let texts = c.in_ok-write_bodies.ensures.makes mid made.stays made.inside in
          let lives = c.in_ok-write_lives.ensures.makes late texts.stays texts.inside in
          let rows = makes_then one two three (HasBodies bodies) Always (HasBodies bodies) (with_bodies bodies) (with_lives n) (λ t has. (has, tt)) texts lives in
          let all = makes_then one three new (HasBodies bodies) HasHeading (λ t. HasBodies bodies t × HasHeading (with_rows bodies n t)) (with_rows bodies n) head (λ t has. (has.0, has.1)) rows (versioned lives.inside) in
          then_rows old one new (λ t. HasBodies bodies t × HasHeading (with_rows bodies n t)) (λ t. head (with_rows bodies n t)) made all);
      cause = λ clean. last_cause old three new c.set_version.result (silent_then old two three (silent_then old one two c.create_life.ensures.silent c.write_bodies.ensures.silent) c.write_lives.ensures.silent) last.silent clean (last.cause clean)
          (λ late live inside allowed.
          let mid : HasCleanDisk two = omega (arith, c.write_lives.ensures.silent.survives.clean, late) in
          let early : HasCleanDisk one = omega (arith, c.write_bodies.ensures.silent.survives.clean, mid) in
          let made = c.in_ok-create_life.ensures.creates early inside in
          let texts = c.in_ok-write_bodies.ensures.makes mid made.stays made.inside in
          let lives = c.in_ok-write_lives.ensures.makes late texts.stays texts.inside in
          let rows = makes_then one two three (HasBodies bodies) Always (HasBodies bodies) (with_bodies bodies) (with_lives n) (λ t has. (has, tt)) texts lives in
          (lives.inside, lets_then one three (HasBodies bodies) (NeedsRest bodies n) (LetsRest bodies n) HasHeading LetsVersion (with_rows bodies n) (λ t has it. (has.0, has.1, lets_version bodies n t it.2)) rows (lets_over old one bodies n made allowed)));
    }

pub returns-in_err-create_life : goal.returns-in_err-create_life
returns-in_err-create_life g c =
    upgrade_stopped g.S.Store c.args.tx.now.conn c.create_life.new.tx.conn c.from_residual.result _ c.from_residual.ensures.1
    (stopped_first g.S.Store _ _ _ (λ (it : LetsUpgradeIn (state g.S.Store c.args.tx.now.conn.now) (CanUpgrade c.args.bodies.now c.args.devices) (LetsUpgrade c.args.bodies.now c.args.devices)). (it.schema, it.sound)) (of_creation g.S.Store _ _ _ c.in_err-create_life.ensures))

pub returns-in_err-write_bodies : goal.returns-in_err-write_bodies
returns-in_err-write_bodies g c =
    let bodies = c.args.bodies.now in
    let n = c.args.devices in
    let old = state g.S.Store c.args.tx.now.conn.now in
    let one = state g.S.Store c.create_life.new.tx.conn.now in
    upgrade_stopped g.S.Store c.args.tx.now.conn c.write_bodies.new.tx.conn c.from_residual-in_err-write_bodies.result _ c.from_residual-in_err-write_bodies.ensures.1
    (stopped_after g.S.Store c.args.tx.now.conn c.create_life.new.tx.conn c.write_bodies.new.tx.conn _ c.create_life.ensures.same_reference c.create_life.ensures.silent (of_open g.S.Store _ _ _ c.in_err-write_bodies.ensures)
    (λ early live inside allowed.
    let made = c.in_ok-create_life.ensures.creates early inside in
    (made.inside, lets_weaker one (NeedsRest bodies n) (LetsRest bodies n) (HasBodies bodies) (LetsBodies bodies) (λ t has it. (has.0, it.0)) (lets_over old one bodies n made allowed))))

pub returns-in_err-write_lives : goal.returns-in_err-write_lives
returns-in_err-write_lives g c =
    let bodies = c.args.bodies.now in
    let n = c.args.devices in
    let old = state g.S.Store c.args.tx.now.conn.now in
    let one = state g.S.Store c.create_life.new.tx.conn.now in
    let two = state g.S.Store c.write_bodies.new.tx.conn.now in
    upgrade_stopped g.S.Store c.args.tx.now.conn c.write_lives.new.tx.conn c.from_residual-in_err-write_lives.result _ c.from_residual-in_err-write_lives.ensures.1
    (stopped_after g.S.Store c.args.tx.now.conn c.write_bodies.new.tx.conn c.write_lives.new.tx.conn _ (c.write_bodies.ensures.same_reference ∙ c.create_life.ensures.same_reference)
    (silent_then old one two c.create_life.ensures.silent c.write_bodies.ensures.silent) (of_open g.S.Store _ _ _ c.in_err-write_lives.ensures)
    (λ mid live inside allowed.
    let early : HasCleanDisk one = omega (arith, c.write_bodies.ensures.silent.survives.clean, mid) in
    let made = c.in_ok-create_life.ensures.creates early inside in
    let texts = c.in_ok-write_bodies.ensures.makes mid made.stays made.inside in
    (texts.inside, lets_then one two (HasBodies bodies) (NeedsRest bodies n) (LetsRest bodies n) Always (LetsLivesOf n) (with_bodies bodies) (λ t has it. (has.0, tt, lets_lives bodies n t it.1)) texts (lets_over old one bodies n made allowed))))

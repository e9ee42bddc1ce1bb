use Rattle.std.proofs.Common.{◌∙◌, arith}
use Rattle.sqlite.specs.State.{HasCleanDisk}
use Rattle.sqlite.specs.Held.{state}
use Rattle.ob_sql_rows.specs.Rows.{Always, Tables, is_key, with_row, device_row, life_row}
use Rattle.ob_sql_rows.specs.Rules.{LacksKey, LetsDevice, LetsLife}
use Rattle.ob_sql_rows.specs.declared.table.Table.TheVariants.{Device, Life}
use Rattle.ob_sql_rows.proofs.Silence.{silent_then}
use Rattle.ob_sql_write.proofs.Causes.{change_stopped, last_cause, lets_then, lets_weaker, of_change, stopped_first}
use Rattle.ob_sql_write.proofs.Steps.{on_ok, makes_then}
use Rattle.ob_sql_write.proofs.Tests.{keyed, last_passes}
use Rattle.ob_sql_write.proofs.change.add_device_and_life.Goals as goal

pub returns : goal.returns
returns g c =
    let d = c.args.device.now in
    let old = state g.S.Store c.args.tx.now.conn.now in
    let one = state g.S.Store c.add_device.new.tx.conn.now in
    let new = state g.S.Store c.add_life.new.tx.conn.now in
    let device = with_row Device (device_row c.args.number d) in
    let lets : Tables → Type 0 = λ t. LetsDevice c.args.number d.name d.a d.b t × LacksKey Life c.args.number t in
    let life = with_row Life (life_row c.args.number d.life) in
    let last = c.add_life.ensures in
    record {
      same_reference = last.same_reference ∙ c.add_device.ensures.same_reference;
      silent = silent_then old one new c.add_device.ensures.silent last.silent;
      faults = last.faults;
      makes = λ clean.
          let early : HasCleanDisk one = omega (arith, last.silent.survives.clean, clean) in
          on_ok c.add_life.result (last.makes clean) (λ second inside.
          let first = c.in_ok-add_device.ensures.makes early inside in
          makes_then old one new Always Always Always device life (λ t has. (tt, tt)) first (second first.inside));
      cause = λ clean. last_cause old one new c.add_life.result c.add_device.ensures.silent last.silent clean (last.cause clean)
          (λ early live inside allowed.
          let went = c.in_ok-add_device.ensures.makes early inside in
          (went.inside, lets_then old one Always Always lets Always (LetsLife c.args.number) device (λ t any it. (tt, tt, (it.1, last_passes (is_key c.args.number) (t Device) _ (keyed c.args.number)))) went allowed));
    }

pub returns-in_err-add_device : goal.returns-in_err-add_device
returns-in_err-add_device g c =
    let d = c.args.device.now in
    let lets : Tables → Type 0 = λ t. LetsDevice c.args.number d.name d.a d.b t × LacksKey Life c.args.number t in
    change_stopped g.S.Store c.args.tx.now.conn c.add_device.new.tx.conn c.from_residual.result _ c.from_residual.ensures.1
    (stopped_first g.S.Store _ _ _ (lets_weaker _ Always lets Always _ (λ t any it. (tt, it.0))) (of_change g.S.Store _ _ _ c.in_err-add_device.ensures))

use Rattle.std.proofs.Common.{◌<◌, ◌^◌, arith, rules}
use Rattle.ob_sql_rows.proofs.Running.{changes}
use Rattle.ob_sql_rows.proofs.Adding.{adds_life}
use Rattle.ob_sql_rows.proofs.Referring.{lets_life}
use Rattle.ob_sql_rows.proofs.inserts.add_life.Goals as goal

pub returns : goal.returns
returns g c =
    let low : c.args.device < 2 ^ 16 = search rules in
    let small : c.args.device < 2 ^ 32 = omega (arith, low) in
    changes g.S.Store _ _ _ _ _ c.run.ensures
    (λ ran. adds_life _ _ c.args.device c.args.life (rw (c.life_columns.ensures.columns, c.from.ensures) at ran))
    (λ failed lets. lets_life _ _ c.args.device c.args.life small (rw (c.life_columns.ensures.columns, c.from.ensures) at failed) lets)

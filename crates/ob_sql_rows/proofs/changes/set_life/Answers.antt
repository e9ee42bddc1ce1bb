use Rattle.std.proofs.Common.{◌<◌, ◌^◌, arith, rules}
use Rattle.ob_sql_rows.proofs.Running.{changes}
use Rattle.ob_sql_rows.proofs.Keyed.{relives}
use Rattle.ob_sql_rows.proofs.Altering.{lets_life_ends}
use Rattle.ob_sql_rows.proofs.changes.set_life.Goals as goal

pub returns : goal.returns
returns g c =
    let low : c.args.device < 2 ^ 16 = search rules in
    let small : c.args.device < 2 ^ 32 = omega (arith, low) in
    changes g.S.Store _ _ _ _ _ c.run.ensures
    (λ ran. relives _ _ c.args.device c.args.life (rw (c.from.ensures, c.large_or_nothing.ensures.field) at ran))
    (λ failed lets. lets_life_ends _ _ c.args.device c.args.life small (rw (c.from.ensures, c.large_or_nothing.ensures.field) at failed) lets)

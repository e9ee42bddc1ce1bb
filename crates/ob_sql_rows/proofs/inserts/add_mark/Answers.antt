use Rattle.std.proofs.Common.{◌<◌, ◌^◌, arith, rules}
use Rattle.ob_sql_rows.proofs.Running.{changes}
use Rattle.ob_sql_rows.proofs.Adding.{adds_mark}
use Rattle.ob_sql_rows.proofs.Letting.{lets_mark}
use Rattle.ob_sql_rows.proofs.inserts.add_mark.Goals as goal

pub returns : goal.returns
returns g c =
    let low : c.args.day < 2 ^ 16 = search rules in
    let small : c.args.day < 2 ^ 32 = omega (arith, low) in
    changes g.S.Store _ _ _ _ _ c.run.ensures
    (λ ran. adds_mark _ _ c.args.day c.args.engineer.now (rw (c.mark_columns.ensures.columns, c.from.ensures) at ran))
    (λ failed lets. lets_mark _ _ c.args.day c.args.engineer.now small c.mark_columns.ensures.short (rw (c.mark_columns.ensures.columns, c.from.ensures) at failed) lets)

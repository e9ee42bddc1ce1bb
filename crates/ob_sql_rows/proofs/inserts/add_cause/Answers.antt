use Rattle.std.proofs.Common.{◌<◌, ◌^◌, arith, rules}
use Rattle.ob_sql_rows.proofs.Running.{changes}
use Rattle.ob_sql_rows.proofs.Adding.{adds_cause}
use Rattle.ob_sql_rows.proofs.Letting.{lets_cause}
use Rattle.ob_sql_rows.proofs.inserts.add_cause.Goals as goal

pub returns : goal.returns
returns g c =
    let low : c.args.code < 2 ^ 8 = search rules in
    let small : c.args.code < 2 ^ 32 = omega (arith, low) in
    changes g.S.Store _ _ _ _ _ c.run.ensures
    (λ ran. adds_cause _ _ c.args.code c.args.name.now (rw (c.cause_columns.ensures.columns, c.from.ensures) at ran))
    (λ failed lets. lets_cause _ _ c.args.code c.args.name.now small c.cause_columns.ensures.short (rw (c.cause_columns.ensures.columns, c.from.ensures) at failed) lets)

use Rattle.std.proofs.Common.{◌<◌, ◌^◌, rules}
use Rattle.ob_sql_rows.proofs.Running.{changes}
use Rattle.ob_sql_rows.proofs.Keyed.{sets_service}
use Rattle.ob_sql_rows.proofs.Altering.{lets_service}
use Rattle.ob_sql_rows.proofs.changes.set_service.Goals as goal

pub returns : goal.returns
returns g c =
    let small : c.args.customer.no < 2 ^ 32 = search rules in
    changes g.S.Store _ _ _ _ _ c.run.ensures
    (λ ran. sets_service _ _ c.args.customer (rw c.large_or_nothing.ensures.field at ran))
    (λ failed lets. lets_service _ _ c.args.customer small (rw c.large_or_nothing.ensures.field at failed) lets)

use Rattle.std.proofs.Common.{◌<◌, ◌^◌, rules}
use Rattle.ob_sql_rows.proofs.Running.{changes}
use Rattle.ob_sql_rows.proofs.Adding.{adds_customer}
use Rattle.ob_sql_rows.proofs.Referring.{lets_customer}
use Rattle.ob_sql_rows.proofs.inserts.add_customer.Goals as goal

pub returns : goal.returns
returns g c =
    let small : c.args.customer.no < 2 ^ 32 = search rules in
    changes g.S.Store _ _ _ _ _ c.run.ensures
    (λ ran. adds_customer _ _ c.args.customer (rw c.customer_columns.ensures.columns at ran))
    (λ failed lets. lets_customer _ _ c.args.customer small (rw c.customer_columns.ensures.columns at failed) lets)

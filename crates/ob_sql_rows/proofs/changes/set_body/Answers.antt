use Rattle.std.proofs.Common.{◌<◌, ◌^◌, rules}
use Rattle.ob_sql_rows.proofs.Running.{changes}
use Rattle.ob_sql_rows.proofs.Keyed.{rebodies}
use Rattle.ob_sql_rows.proofs.Altering.{lets_body}
use Rattle.ob_sql_rows.proofs.changes.set_body.Goals as goal

pub returns : goal.returns
returns g c =
    let small : c.args.no < 2 ^ 32 = search rules in
    changes g.S.Store _ _ _ _ _ c.run.ensures
    (λ ran. rebodies _ _ c.args.no c.args.body.now ran)
    (λ failed lets. lets_body _ _ c.args.no c.args.body.now small failed lets)

use Rattle.std.proofs.Common.{◌<◌, ◌^◌, rules}
use Rattle.ob_sql_rows.proofs.Running.{changes}
use Rattle.ob_sql_rows.proofs.Adding.{adds_command}
use Rattle.ob_sql_rows.proofs.Letting.{lets_command}
use Rattle.ob_sql_rows.proofs.inserts.add_command.Goals as goal

pub returns : goal.returns
returns g c =
    let small : c.args.no < 2 ^ 32 = search rules in
    changes g.S.Store _ _ _ _ _ c.run.ensures
    (λ ran. adds_command _ _ c.args.no c.args.reference.now c.args.body.now ran)
    (λ failed lets. lets_command _ _ c.args.no c.args.reference.now c.args.body.now small failed lets)

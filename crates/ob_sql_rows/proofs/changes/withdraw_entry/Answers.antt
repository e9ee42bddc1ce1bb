use Rattle.std.proofs.Common.{◌<◌, ◌^◌, rules}
use Rattle.ob_sql_rows.proofs.Running.{changes}
use Rattle.ob_sql_rows.proofs.Keyed.{withdraws_entry}
use Rattle.ob_sql_rows.proofs.Altering.{lets_withdrawn}
use Rattle.ob_sql_rows.proofs.changes.withdraw_entry.Goals as goal

pub returns : goal.returns
returns g c =
    let small : c.args.no < 2 ^ 32 = search rules in
    changes g.S.Store _ _ _ _ _ c.run.ensures
    (λ ran. withdraws_entry _ _ c.args.no c.args.revision ran)
    (λ failed lets. lets_withdrawn _ _ c.args.no c.args.revision small failed lets)

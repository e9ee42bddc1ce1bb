use Rattle.ob_sql_rows.proofs.Running.{changes}
use Rattle.ob_sql_rows.proofs.Keyed.{reversions}
use Rattle.ob_sql_rows.proofs.Altering.{lets_version}
use Rattle.ob_sql_rows.proofs.changes.set_version.Goals as goal

pub returns : goal.returns
returns g c =
    changes g.S.Store _ _ _ _ _ c.run.ensures
    (λ ran. reversions _ _ c.args.version ran)
    (λ failed lets. lets_version _ _ c.args.version failed lets)

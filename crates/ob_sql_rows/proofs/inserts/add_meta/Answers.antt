use Rattle.ob_sql_rows.proofs.Running.{changes}
use Rattle.ob_sql_rows.proofs.Adding.{adds_meta}
use Rattle.ob_sql_rows.proofs.Letting.{lets_meta}
use Rattle.ob_sql_rows.proofs.inserts.add_meta.Goals as goal

pub returns : goal.returns
returns g c =
    changes g.S.Store _ _ _ _ _ c.run.ensures
    (λ ran. adds_meta _ _ c.args.first_day.now c.args.days c.args.zone.now (rw c.meta_columns.ensures.columns at ran))
    (λ failed lets. lets_meta _ _ c.args.first_day.now c.args.days c.args.zone.now (rw c.meta_columns.ensures.columns at failed) lets)

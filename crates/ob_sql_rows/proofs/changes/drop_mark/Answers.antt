use Rattle.ob_sql_rows.proofs.Running.{changes}
use Rattle.ob_sql_rows.proofs.Keyed.{drops_mark}
use Rattle.ob_sql_rows.proofs.Altering.{lets_unmarked}
use Rattle.ob_sql_rows.proofs.changes.drop_mark.Goals as goal

pub returns : goal.returns
returns g c =
    changes g.S.Store _ _ _ _ _ c.run.ensures
    (λ ran. drops_mark _ _ c.args.day (rw c.from.ensures at ran))
    (λ failed lets. lets_unmarked _ _ c.args.day (rw c.from.ensures at failed) lets)

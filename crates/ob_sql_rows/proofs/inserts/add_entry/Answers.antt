use Rattle.ob_sql_rows.proofs.Running.{changes}
use Rattle.ob_sql_rows.proofs.Adding.{adds_entry}
use Rattle.ob_sql_rows.proofs.Referring.{lets_entry}
use Rattle.ob_sql_rows.proofs.inserts.add_entry.Goals as goal

pub returns : goal.returns
returns g c =
    changes g.S.Store _ _ _ _ _ c.run.ensures
    (λ ran. adds_entry _ _ c.args.entry.now (rw c.entry_columns.ensures.columns at ran))
    (λ failed lets. lets_entry _ _ c.args.entry.now c.entry_columns.ensures.number c.entry_columns.ensures.short (rw c.entry_columns.ensures.columns at failed) lets)

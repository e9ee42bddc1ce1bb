use Rattle.ob_sql_rows.proofs.Running.{creates}
use Rattle.ob_sql_rows.proofs.Creating.{makes_table}
use Rattle.ob_sql_rows.proofs.Defining.{lets_table}
use Rattle.ob_sql_rows.proofs.creation.create_table.Goals as goal

pub returns : goal.returns
returns g c =
    creates g.S.Store _ _ _ _ _ _ _ c.run.ensures (λ ran. makes_table c.args.table _ _ (rw c.text_of.ensures at ran))
    (λ failed lets. lets_table c.args.table _ _ (rw c.text_of.ensures at failed) lets)

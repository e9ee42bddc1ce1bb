use Rattle.ob_sql_rows.proofs.Running.{creates}
use Rattle.ob_sql_rows.proofs.Creating.{makes_life}
use Rattle.ob_sql_rows.proofs.Defining.{lets_life}
use Rattle.ob_sql_rows.proofs.creation.create_life.Goals as goal

pub returns : goal.returns
returns g c =
    creates g.S.Store _ _ _ _ _ _ _ c.run.ensures (λ ran. makes_life _ _ (rw c.text_of.ensures at ran))
    (λ failed lets. lets_life _ _ (rw c.text_of.ensures at failed) lets)

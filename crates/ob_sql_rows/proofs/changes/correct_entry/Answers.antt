use Rattle.ob_sql_rows.proofs.Identifiers.{short_crew}
use Rattle.ob_sql_rows.proofs.Running.{changes}
use Rattle.ob_sql_rows.proofs.Keyed.{corrects_entry}
use Rattle.ob_sql_rows.proofs.Altering.{lets_corrected}
use Rattle.ob_sql_rows.proofs.changes.correct_entry.Goals as goal

pub returns : goal.returns
returns g c =
    changes g.S.Store _ _ _ _ _ c.run.ensures
    (λ ran. corrects_entry _ _ c.args.entry.now (rw (c.key.ensures.field, c.position_number.ensures, c.from.ensures, c.bytes.ensures.value) at ran))
    (λ failed lets. lets_corrected _ _ c.args.entry.now c.key.ensures.small (short_crew c.args.entry.now.crew c.bytes.ensures.identifier) (rw (c.key.ensures.field, c.position_number.ensures, c.from.ensures, c.bytes.ensures.value) at failed) lets)

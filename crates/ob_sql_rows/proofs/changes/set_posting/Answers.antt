use Rattle.ob_sql_rows.proofs.Running.{changes}
use Rattle.ob_sql_rows.proofs.Posting.{sets_posting}
use Rattle.ob_sql_rows.proofs.Hiding.{lets_amount}
use Rattle.ob_sql_rows.proofs.changes.set_posting.Goals as goal

pub returns : goal.returns
returns g c =
    changes g.S.Store _ _ _ _ _ c.run.ensures
    (λ ran. sets_posting _ _ c.args.dim c.args.key c.args.amount (rw (c.posting_columns.ensures.columns, c.from.ensures, c.from-2.ensures) at ran))
    (λ failed lets. lets_amount _ _ c.args.dim c.args.key c.args.amount (rw (c.posting_columns.ensures.columns, c.from.ensures, c.from-2.ensures) at failed) lets)

use Rattle.std.proofs.Common.{to_z-of_z}
use Rattle.ob_sql_rows.proofs.Running.{changes}
use Rattle.ob_sql_rows.proofs.Adding.{adds_moved}
use Rattle.ob_sql_rows.proofs.Hiding.{lets_moved}
use Rattle.ob_sql_rows.proofs.inserts.add_moved.Goals as goal

pub returns : goal.returns
returns g c =
    changes g.S.Store _ _ _ _ _ c.run.ensures
    (λ ran. adds_moved _ _ c.args.no c.args.dim c.args.key c.args.delta (rw (to_z-of_z c.ranges.delta) at ran))
    (λ failed lets. lets_moved _ _ c.args.no c.args.dim c.args.key c.args.delta (rw (to_z-of_z c.ranges.delta) at failed) lets)

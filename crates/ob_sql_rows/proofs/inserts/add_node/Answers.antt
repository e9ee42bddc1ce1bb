use Rattle.std.proofs.Common.{◌<◌, ◌^◌, arith, rules}
use Rattle.ob_sql_rows.proofs.Running.{changes}
use Rattle.ob_sql_rows.proofs.Adding.{adds_node}
use Rattle.ob_sql_rows.proofs.Letting.{lets_node}
use Rattle.ob_sql_rows.proofs.inserts.add_node.Goals as goal

pub returns : goal.returns
returns g c =
    let low : c.args.number < 2 ^ 16 = search rules in
    let small : c.args.number < 2 ^ 32 = omega (arith, low) in
    changes g.S.Store _ _ _ _ _ c.run.ensures
    (λ ran. adds_node _ _ c.args.number c.args.node.now (rw (c.node_columns.ensures.columns, c.from.ensures) at ran))
    (λ failed lets. lets_node _ _ c.args.number c.args.node.now small c.node_columns.ensures.short (rw (c.node_columns.ensures.columns, c.from.ensures) at failed) lets)

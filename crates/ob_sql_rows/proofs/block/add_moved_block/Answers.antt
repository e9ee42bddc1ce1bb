use Rattle.std.proofs.Common.{◌≡◌, length, rules}
use Rattle.ob_sql_rows.proofs.Blocks.{adds_block, lets_block}
use Rattle.ob_sql_rows.proofs.Running.{changes}
use Rattle.ob_sql_rows.proofs.block.add_moved_block.Goals as goal

pub returns : goal.returns
returns g c =
    let long : length c.args.amounts.now ≡ 8 = search rules in
    changes g.S.Store _ _ _ _ _ c.run_values.ensures
    (λ ran. adds_block _ _ c.args.no c.args.amounts.now long (rw c.block_values.ensures at ran))
    (λ failed lets. lets_block _ _ c.args.no c.args.amounts.now long (rw c.block_values.ensures at failed) lets)

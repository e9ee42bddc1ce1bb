use Rattle.std.proofs.Common.{◌≡◌, ◌∙◌, None, arith, subst}
use Rattle.std.specs.Prelude.{codes, Result}
use Rattle.std.specs.Borrow.{MutBor}
use Rattle.sqlite_trees.specs.declared.store.Store.{Ghosts}
use Rattle.sqlite.specs.State.{HasCleanDisk}
use Rattle.sqlite.specs.Held.{Held, state}
use Rattle.ob_base.specs.declared.stop.Stop.{Stop}
use Rattle.ob_net.specs.declared.net.Node.{Node as NetNode}
use Rattle.ob_sql_rows.specs.Steps.{Changes, Makes}
use Rattle.ob_sql_rows.specs.Rows.{Always, with_row, meta_row, cause_row, node_row}
use Rattle.ob_sql_rows.specs.declared.table.Table.TheVariants.{Meta, Cause, Node}
use Rattle.ob_sql_rows.proofs.Silence.{silent_then}
use Rattle.ob_sql_rows.specs.Rules.{LetsCause, LetsMeta, LetsNode}
use Rattle.ob_sql_write.specs.NewBook.{LetsHeading}
use Rattle.ob_sql_write.proofs.Causes.{change_stopped, last_cause, lets_then, lets_weaker, of_change, stopped_after, stopped_first}
use Rattle.ob_sql_write.proofs.Letting.{lets_grid, lets_meta, lets_unassigned}
use Rattle.ob_sql_write.proofs.Steps.{on_ok, makes_then}
use Rattle.ob_sql_write.proofs.writing.write_heading.Goals as goal

-- a node is added as it was given
node_added : {S X : Type 0} (g : Ghosts S) (old new : MutBor (Held S)) (result : Result X Stop) (node is : NetNode) → node ≡ is → Changes g old new result Always (LetsNode 0 node.name) (with_row Node (node_row 0 node))
    → Changes g old new result Always (LetsNode 0 is.name) (with_row Node (node_row 0 is))
node_added g old new result node is same = subst (λ (x : NetNode). Changes g old new result Always (LetsNode 0 x.name) (with_row Node (node_row 0 x))) same

pub returns : goal.returns
returns g c =
    let old = state g.S.Store c.args.tx.now.conn.now in
    let one = state g.S.Store c.add_meta.new.tx.conn.now in
    let two = state g.S.Store c.add_cause.new.tx.conn.now in
    let new = state g.S.Store c.add_node.new.tx.conn.now in
    let period = with_row Meta (meta_row 2 c.args.first_day.now c.args.days c.args.zone.now) in
    let cause = with_row Cause (cause_row 0 (codes "UNASSIGNED")) in
    let first_day = c.args.first_day.now in
    let zone = c.args.zone.now in
    let lets = LetsHeading first_day zone in
    let grid = with_row Node (node_row 0 (record { name = codes "GRID"; feeder = None })) in
    let last = node_added g.S.Store _ _ _ _ _ c.grid.ensures c.add_node.ensures in
    let quiet = silent_then one two new c.add_cause.ensures.silent last.silent in
    record {
      same_reference = last.same_reference ∙ (c.add_cause.ensures.same_reference ∙ c.add_meta.ensures.same_reference);
      silent = silent_then old one new c.add_meta.ensures.silent quiet;
      faults = last.faults;
      makes = λ clean.
          let late : HasCleanDisk two = omega (arith, last.silent.survives.clean, clean) in
          let early : HasCleanDisk one = omega (arith, quiet.survives.clean, clean) in
          on_ok c.add_node.result (last.makes clean) (λ third inside.
          let first : Makes old one Always period = rw c.from.ensures at (c.in_ok-add_meta.ensures.makes early inside) in
          let second : Makes one two Always cause = rw c.unassigned.ensures at (c.in_ok-add_cause.ensures.makes late first.inside) in
          let both : Makes old two Always (λ t. cause (period t)) = makes_then old one two Always Always Always period cause (λ t has. (tt, tt)) first second in
          makes_then old two new Always Always Always (λ t. cause (period t)) grid (λ t has. (tt, tt)) both (third second.inside));
      cause = λ clean. last_cause old two new c.add_node.result (silent_then old one two c.add_meta.ensures.silent c.add_cause.ensures.silent) last.silent clean (last.cause clean)
          (λ late live inside allowed.
          let early : HasCleanDisk one = omega (arith, c.add_cause.ensures.silent.survives.clean, late) in
          let first : Makes old one Always period = rw c.from.ensures at (c.in_ok-add_meta.ensures.makes early inside) in
          let second : Makes one two Always cause = rw c.unassigned.ensures at (c.in_ok-add_cause.ensures.makes late first.inside) in
          let both : Makes old two Always (λ t. cause (period t)) = makes_then old one two Always Always Always period cause (λ t has. (tt, tt)) first second in
          (second.inside, lets_then old two Always Always lets Always (LetsNode 0 (codes "GRID")) (λ t. cause (period t)) (λ t any it. (tt, tt, lets_grid first_day zone t it)) both allowed));
    }

pub returns-in_err-add_meta : goal.returns-in_err-add_meta
returns-in_err-add_meta g c =
    let first_day = c.args.first_day.now in
    let zone = c.args.zone.now in
    change_stopped g.S.Store c.args.tx.now.conn c.add_meta.new.tx.conn c.from_residual.result _ c.from_residual.ensures.1
    (stopped_first g.S.Store _ _ _ (lets_weaker _ Always (LetsHeading first_day zone) Always (LetsMeta first_day zone) (λ t any it. (tt, lets_meta first_day zone t it))) (of_change g.S.Store _ _ _ c.in_err-add_meta.ensures))

pub returns-in_err-add_cause : goal.returns-in_err-add_cause
returns-in_err-add_cause g c =
    let first_day = c.args.first_day.now in
    let zone = c.args.zone.now in
    let old = state g.S.Store c.args.tx.now.conn.now in
    let one = state g.S.Store c.add_meta.new.tx.conn.now in
    let period = with_row Meta (meta_row 2 first_day c.args.days zone) in
    change_stopped g.S.Store c.args.tx.now.conn c.add_cause.new.tx.conn c.from_residual-in_err-add_cause.result _ c.from_residual-in_err-add_cause.ensures.1
    (stopped_after g.S.Store c.args.tx.now.conn c.add_meta.new.tx.conn c.add_cause.new.tx.conn _ c.add_meta.ensures.same_reference c.add_meta.ensures.silent (of_change g.S.Store _ _ _ (rw c.unassigned.ensures at c.in_err-add_cause.ensures))
    (λ early live inside allowed.
    let first : Makes old one Always period = rw c.from.ensures at (c.in_ok-add_meta.ensures.makes early inside) in
    (first.inside, lets_then old one Always Always (LetsHeading first_day zone) Always (LetsCause 0 (codes "UNASSIGNED")) period (λ t any it. (tt, tt, lets_unassigned first_day zone t it)) first allowed)))

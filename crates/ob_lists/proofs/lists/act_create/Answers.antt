use Rattle.std.specs.Prelude.{◌++◌}
use Rattle.ob_store.specs.Acting.{under}
use Rattle.ob_lists.specs.Standing.{told_by}
use Rattle.ob_lists.proofs.lists.act_create.Goals as goal

pub returns-clause-stands : goal.returns-clause-stands
returns-clause-stands g c =
    λ clean b told stands.
    let all = told_by (under c.args.reference c.args.command) c.act-sent.result ++ told in
    let was = c.act-sent.ensures.goes.stands (c.create_again.ensures.goes.clean clean) b told stands in
    (c.create_again.ensures.refused clean b all was, c.create_again.ensures.goes.stands clean b all was)

pub returns-clause-created : goal.returns-clause-created
returns-clause-created g c = (c.act-sent.new.keeper, c.create_again.ensures.created)

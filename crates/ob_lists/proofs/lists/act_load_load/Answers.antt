use Rattle.std.specs.Prelude.{◌++◌}
use Rattle.ob_store.specs.Acting.{under}
use Rattle.ob_lists.specs.Standing.{MayBe, told_by}
use Rattle.ob_lists.proofs.Standings.{finds}
use Rattle.ob_lists.proofs.lists.act_load_load.Goals as goal

pub returns : goal.returns
returns g c =
    λ clean b told stands.
    let all = told_by (under c.args.reference c.args.command) c.act-sent.result ++ told in
    let loaded = c.load-2.ensures.goes.clean clean in
    let sent = c.load.ensures.goes.clean loaded in
    let was = c.load.ensures.goes.stands loaded b all (c.act-sent.ensures.goes.stands sent b told stands) in
    finds (MayBe b all) c.load.new.keeper c.load-2.new.keeper c.load-2.result was c.load-2.ensures.load (c.load-2.ensures.loads clean b all was)

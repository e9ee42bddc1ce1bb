use Rattle.ob_lists.proofs.Beginning.{begun}
use Rattle.ob_lists.proofs.lists.create_restart_load.Goals as goal

pub returns : goal.returns
returns g c =
    λ clean held.
    begun g.met.S.Store.settled g.met.R.Store.settled
    c.load_law.ensures c.args.keeper c.create-made.new.self c.restart-next.result c.load-found.new.self held c.restart-next.ensures c.load-found.result c.load-found.ensures.loads clean
    c.args.first.now c.args.days c.args.zone.now c.create-made.result c.create-made.ensures.created

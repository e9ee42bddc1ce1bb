use Rattle.ob_lists.specs.Standing.{MayBe}
use Rattle.ob_lists.proofs.Standings.{create_refused, create_stands}
use Rattle.ob_lists.proofs.calls.create_again.Goals as goal

pub returns-clause-goes : goal.returns-clause-goes
returns-clause-goes g c =
    let old = c.args.keeper.now in
    let new = c.create.new.self in
    record {
      clean = c.create.ensures.clean;
      stands = λ clean b before stands. create_stands old new (MayBe b before) c.args.first.now c.args.days c.args.zone.now c.create.result c.create.ensures.created clean
          (c.create.ensures.clean clean) stands;
    }

pub returns-clause-refused : goal.returns-clause-refused
returns-clause-refused g c =
    λ clean b told stands. create_refused c.args.keeper.now c.create.new.self (MayBe b told) c.args.first.now c.args.days c.args.zone.now c.create.result c.create.ensures.created clean
    (c.create.ensures.clean clean) stands

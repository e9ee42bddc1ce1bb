use Rattle.ob_store.proofs.KeeperLaws.{numbers_stay}
use Rattle.ob_lists.specs.Standing.{MayBe}
use Rattle.ob_lists.proofs.Standings.{load_stands, loads_one}
use Rattle.ob_lists.proofs.calls.load.Goals as goal

pub returns-clause-loads : goal.returns-clause-loads
returns-clause-loads g c =
    λ clean b told stands. loads_one c.args.keeper.now c.load.new.self (MayBe b told) c.load_law.ensures c.load.result c.load.ensures.loads clean stands

pub returns-clause-goes : goal.returns-clause-goes
returns-clause-goes g c = record {
  clean = c.load.ensures.loads.clean;
  stands = λ clean b before stands. load_stands c.args.keeper.now c.load.new.self (MayBe b before) c.load_law.ensures c.load.result c.load.ensures.loads clean stands;
}

pub returns-clause-numbered : goal.returns-clause-numbered
returns-clause-numbered g c = numbers_stay c.args.keeper.now c.load.new.self c.load.ensures.loads.survives

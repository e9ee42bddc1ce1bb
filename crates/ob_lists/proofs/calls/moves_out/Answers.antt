use Rattle.ob_lists.specs.Standing.{MayBe}
use Rattle.ob_lists.proofs.Standings.{moves_stand, of_one}
use Rattle.ob_lists.proofs.calls.moves_out.Goals as goal

pub returns-clause-goes : goal.returns-clause-goes
returns-clause-goes g c = record {
  clean = c.moves_out.ensures.clean;
  stands = λ clean b before stands. moves_stand c.args.keeper.now c.moves_out.new.self (MayBe b before) g.V.MoveSink.takes c.args.sink.now c.moves_out.new.sink c.moves_out.result
      (λ none. (c.moves_out.ensures.unopened none).0) (λ x ties some. c.moves_out.ensures.moves clean x ties some) stands;
}

pub returns-clause-moves : goal.returns-clause-moves
returns-clause-moves g c =
    λ clean b told stands. of_one c.args.keeper.now c.moves_out.new.self (MayBe b told) c.moves_out.result c.moves_out.ensures.reopen
    (λ x ties some. c.moves_out.ensures.moves clean x ties some) stands

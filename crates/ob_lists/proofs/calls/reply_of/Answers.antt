use Rattle.ob_lists.specs.Standing.{MayBe}
use Rattle.ob_lists.proofs.Standings.{of_one, reply_stands}
use Rattle.ob_lists.proofs.calls.reply_of.Goals as goal

pub returns-clause-goes : goal.returns-clause-goes
returns-clause-goes g c = record {
  clean = c.reply_of.ensures.clean;
  stands = λ clean b before stands. reply_stands c.args.keeper.now c.reply_of.new.self (MayBe b before) c.args.«no» c.reply_of.result c.reply_of.ensures.unopened
      (λ x ties some. c.reply_of.ensures.replied clean x ties some) stands;
}

pub returns-clause-replies : goal.returns-clause-replies
returns-clause-replies g c =
    λ clean b told stands. of_one c.args.keeper.now c.reply_of.new.self (MayBe b told) c.reply_of.result c.reply_of.ensures.reopen.0
    (λ x ties some. (c.reply_of.ensures.replied clean x ties some, c.reply_of.ensures.cause clean x ties some)) stands

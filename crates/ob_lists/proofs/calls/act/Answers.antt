use Rattle.ob_lists.specs.Standing.{MayBe}
use Rattle.ob_lists.proofs.Numbering.{acts_for_cause, numbers_act}
use Rattle.ob_lists.proofs.Standings.{act_stands, of_one}
use Rattle.ob_store.specs.Acting.{under}
use Rattle.ob_lists.proofs.calls.act.Goals as goal

pub returns-clause-goes : goal.returns-clause-goes
returns-clause-goes g c =
    let old = c.args.keeper.now in
    let new = c.act.new.self in
    let a = under c.args.reference c.args.command in
    record {
      clean = c.act.ensures.clean;
      stands = λ clean b before stands. act_stands old new b before a c.act.result (c.act.ensures.reopen.0) c.act.ensures.unopened
          (λ x ties some. c.act.ensures.acted clean x ties some) stands;
    }

pub returns-clause-answers : goal.returns-clause-answers
returns-clause-answers g c =
    λ clean b told stands. of_one c.args.keeper.now c.act.new.self (MayBe b told) c.act.result c.act.ensures.reopen.0
    (λ x ties some. c.act.ensures.acted clean x ties some) stands

pub returns-clause-cause : goal.returns-clause-cause
returns-clause-cause g c =
    λ clean b told stands numbers.
    acts_for_cause c.args.keeper.now c.act.new.self (MayBe b told) (under c.args.reference c.args.command) c.act.result (c.act.ensures.reopen.0)
    (λ x ties some. c.act.ensures.cause clean x ties some numbers) stands

pub returns-clause-numbered : goal.returns-clause-numbered
returns-clause-numbered g c =
    λ b told stands numbers.
    numbers_act c.args.keeper.now c.act.new.self (MayBe b told) c.act.ensures.unopened (λ x ties. c.act.ensures.numbered x ties numbers) stands numbers

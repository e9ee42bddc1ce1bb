use Rattle.ob_store.specs.Keepers.{OnlySearches}
use Rattle.ob_store.proofs.Searching.{clean_before}
use Rattle.ob_lists.specs.Standing.{MayBe}
use Rattle.ob_lists.proofs.Planning.{plans_one, refuses_one, searched_stands}
use Rattle.ob_lists.proofs.calls.plan.Goals as goal

pub returns-clause-goes : goal.returns-clause-goes
returns-clause-goes g c =
    let same : OnlySearches c.args.keeper.now c.plan.new.self = (c.plan.ensures.conn, c.plan.ensures.book) in
    record {
      clean = clean_before c.args.keeper.now c.plan.new.self same;
      stands = λ clean b before stands. searched_stands (MayBe b before) c.args.keeper.now c.plan.new.self same stands;
    }

pub returns-clause-plans : goal.returns-clause-plans
returns-clause-plans g c = λ b told stands.
    plans_one (MayBe b told) c.args.keeper.now (λ text. text.items) c.args.command.now c.plan.result c.plan.ensures.reopen.0 c.plan.ensures.refused c.plan.ensures.text stands

pub returns-clause-refuses : goal.returns-clause-refuses
returns-clause-refuses g c = λ b told stands why is.
    refuses_one (MayBe b told) c.args.keeper.now (λ text. text.items) c.args.command.now c.plan.result c.plan.ensures.reopen.0 c.plan.ensures.refused stands why is

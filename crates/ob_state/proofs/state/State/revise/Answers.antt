use Rattle.std.proofs.Common.{◌≡◌, rules}
use Rattle.ob_cust.specs.Roll.{with_service}
use Rattle.ob_state.specs.contracts.state.State.{the_view}
use Rattle.ob_state.proofs.Kept.{revised_is}
use Rattle.ob_state.proofs.state.State.revise.Goals as goal

pub invariant_of-self : goal.invariant_of-self
invariant_of-self c =
    let is : c.serve.new.self.customers ≡ with_service c.args.old.«no» c.args.new.since c.args.new.until c.self.inside.roll.customers = search rules in
    rw is (revised_is (the_view c.self.inside).state c.args.old.«no» c.args.new.since c.args.new.until c.self.invariant)

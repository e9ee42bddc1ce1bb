use Rattle.std.proofs.Common.{◌≡◌, rules}
use Rattle.ob_cust.specs.Roll.{with_customer}
use Rattle.ob_state.specs.contracts.state.State.{the_view}
use Rattle.ob_state.proofs.Kept.{connected_is}
use Rattle.ob_state.proofs.state.State.connect.Goals as goal

pub invariant_of-self : goal.invariant_of-self
invariant_of-self c =
    let is : c.add.new.self.customers ≡ with_customer c.args.customer c.self.inside.roll.customers = search rules in
    let takes = rw (← c.self.view_is) at c.requires.takes in
    rw is (connected_is (the_view c.self.inside).state c.args.customer c.self.invariant takes.section)

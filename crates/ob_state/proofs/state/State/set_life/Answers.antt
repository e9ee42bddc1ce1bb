use Rattle.std.proofs.Common.{◌≡◌, rules}
use Rattle.ob_net.specs.Network.{with_life}
use Rattle.ob_state.specs.contracts.state.State.{the_view}
use Rattle.ob_state.proofs.Kept.{lived_is}
use Rattle.ob_state.proofs.state.State.set_life.Goals as goal

pub invariant_of-self : goal.invariant_of-self
invariant_of-self c =
    let is : c.give_life.new.self.network ≡ with_life c.self.inside.net.network c.args.device c.args.life = search rules in
    rw is (lived_is (the_view c.self.inside).state c.args.device c.args.life c.self.invariant)

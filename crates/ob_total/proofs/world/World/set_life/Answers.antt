use Rattle.ob_total.proofs.Lives.{as_many_devices}
use Rattle.ob_total.proofs.world.World.set_life.Goals as goal

pub invariant_of-self-2 : goal.invariant_of-self-2
invariant_of-self-2 c =
    let same = as_many_devices c.self.inside.net.network.devices c.in-Some.device c.args.life in
    record {
      span = c.self.invariant.span;
      devices = rw (c.in_ok-set_life.ensures.ok, same) c.self.invariant.devices;
      sections = rw c.in_ok-set_life.ensures.ok c.self.invariant.sections;
    }

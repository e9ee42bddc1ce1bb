use Rattle.std.proofs.Common.{◌<◌, ◌∙◌, length, ap}
use Rattle.ob_cust.specs.Roll.{with_customer}
use Rattle.ob_total.proofs.Sections.{sections_with}
use Rattle.ob_total.proofs.world.World.connect.Goals as goal

pub invariant_of-self-2 : goal.invariant_of-self-2
invariant_of-self-2 c =
    let here : c.in-Some.section < length c.self.inside.net.network.nodes = rw (← c.self.view_is) at c.in-Some.ensures.exists in
    let roll = c.in_ok-connect.ensures.ok ∙ ap (with_customer _) c.reserve_one.ensures.customers in
    record {
      span = c.self.invariant.span;
      devices = c.self.invariant.devices;
      sections = rw roll (sections_with (length c.self.inside.net.network.nodes) _ c.self.inside.roll.customers here c.self.invariant.sections);
    }

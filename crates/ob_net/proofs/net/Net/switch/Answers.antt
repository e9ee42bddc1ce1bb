use Rattle.std.proofs.Common.{◌∙◌}
use Rattle.ob_net.proofs.Supplied.{component_supplied}
use Rattle.ob_net.proofs.net.Net.switch.Goals as goal

pub returns-clause-supplied : goal.returns-clause-supplied
returns-clause-supplied c =
    component_supplied c.args.self.now.network c.switch.new.self.ends c.switch.new.self.positions c.switch.new.self.live
    (c.switch.ensures.ends ∙ c.requires.of.ends) (c.switch.ensures.count ∙ c.switch.ensures.nodes ∙ c.requires.of.nodes) c.switch.ensures.live

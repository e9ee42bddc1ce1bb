use Rattle.std.proofs.Common.{◌<◌, length}
use Rattle.ob_net.proofs.Chains.{ends_are_nodes, length_ends}
use Rattle.ob_net.proofs.joints.Joints.ends.Goals as goal

pub returns-clause-a_is_node : goal.returns-clause-a_is_node
returns-clause-a_is_node c =
    let l : c.args.device < length c.self.inside.joints.items = rw (← c.self.view_is, length_ends c.self.inside.joints.items) at c.requires in
    rw (← c.self.view_is) (ends_are_nodes _ c.self.inside.joints.items c.args.device c.index.result.now l c.index.ensures c.self.invariant.nodes).0

pub returns-clause-b_is_node : goal.returns-clause-b_is_node
returns-clause-b_is_node c =
    let l : c.args.device < length c.self.inside.joints.items = rw (← c.self.view_is, length_ends c.self.inside.joints.items) at c.requires in
    rw (← c.self.view_is) (ends_are_nodes _ c.self.inside.joints.items c.args.device c.index.result.now l c.index.ensures c.self.invariant.nodes).1

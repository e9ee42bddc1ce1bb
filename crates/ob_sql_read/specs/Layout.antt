-- What becomes of a network by what a command comes to.
use Rattle.ob_net.specs.Network.{Network, with_joined, with_life, with_node}
use Rattle.ob_state.specs.declared.resolved.Resolved.{Resolved}
use Rattle.ob_state.specs.declared.resolved.Resolved.TheVariants.{Node, Device, Life}

-- one more node, one more device, or another life of a device; all else leaves it as it is
abbrev pub network_by : Network → Resolved → Network
network_by net (Node number node) = with_node net node
network_by net (Device number device) = with_joined net device
network_by net (Life device old new) = with_life net device new
network_by net r = net

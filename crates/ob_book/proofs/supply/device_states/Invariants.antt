use Rattle.std.proofs.Common.{◌≡◌, map, take}
use Rattle.std.specs.List.{enumerate_from}
use Rattle.ob_book.specs.Supplies.{device_state}
use Rattle.ob_book.proofs.supply.device_states.Given as goal

-- the devices so far
abbrev pub invariant-loop-device : goal.invariant-loop-device
invariant-loop-device l = l.devices.items ≡ take l.device (map (device_state l.fn.state.state l.fn.second) (enumerate_from 0 l.fn.state.state.network.devices))

use Rattle.std.proofs.Common.{◌≡◌, map, take}
use Rattle.serde_json.specs.View.{view}
use Rattle.ob_json.specs.Supplies.{device_data}
use Rattle.ob_json.proofs.supply.device_values.Given as goal

abbrev pub invariant-loop-device : goal.invariant-loop-device
invariant-loop-device l = map view l.values.items ≡ map device_data (take l.device-index l.devices)

-- The supply at a second has no float as JSON.
use Rattle.std.proofs.Common.{◌≡◌, refl, false, List, [], ◌∷◌, map}
use Rattle.serde_json.specs.View.{items_of}
use Rattle.serde_json.specs.Written.{has_float, items_have_float}
use Rattle.ob_json.specs.Supplies.{Supply, device_data, supply_data, unsupplied_data}
use Rattle.ob_json.specs.declared.supply.UnsuppliedSection.{UnsuppliedSection}
use Rattle.ob_json.specs.declared.supply.DeviceState.{DeviceState}
use Rattle.ob_json.proofs.Planning.{entry_has_none}

sections_have_none : (sections : List UnsuppliedSection) → items_have_float (items_of (map unsupplied_data sections)) ≡ false
sections_have_none [] = refl
sections_have_none (s ∷ sections) = rw (entry_has_none s.entry) (sections_have_none sections)

devices_have_none : (devices : List DeviceState) → items_have_float (items_of (map device_data devices)) ≡ false
devices_have_none [] = refl
devices_have_none (d ∷ devices) = devices_have_none devices

pub supply_has_none : (s : Supply) → has_float (supply_data s) ≡ false
supply_has_none s = rw (devices_have_none s.devices, sections_have_none s.sections) refl

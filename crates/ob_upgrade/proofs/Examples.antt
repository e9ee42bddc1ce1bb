-- The words of version 1 on plain cases.
use Rattle.std.proofs.Common.{◌≡◌, refl, ℕ, [], ◌∷◌, false, true, Option, None, Some, codes}
use Rattle.ob_base.specs.declared.Pos.TheVariants.{Closed}
use Rattle.ob_command.specs.Commands.{service_between}
use Rattle.ob_command.specs.Ranges.{end_names}
use Rattle.ob_command.specs.declared.command.Command.{Command}
use Rattle.ob_command.specs.declared.command.Command.TheVariants.{Bus, Device}
use Rattle.ob_command.specs.declared.device.NewDevice.{NewDevice}
use Rattle.ob_sheet.specs.declared.Entry.{Entry}
use Rattle.ob_upgrade.specs.Old.{fits_old, is_old, old_body_text}

-- a device with this name, these ends and this normal position, whatever else is told of it
abbrev named : NewDevice → Command
named d = Device (record d { name = codes "X1"; ends = end_names (codes "BUS-A") (codes "S1"); normal = Closed })

-- a device with this life
abbrev living : NewDevice → ℕ → Option ℕ → Command
living d since until = Device (record d { life = service_between since until })

device_text : (d : NewDevice) → old_body_text (named d) ≡ codes "device X1 BUS-A S1 closed"
device_text d = refl

-- a device that joins later is none of version 1, nor is one that leaves
joins_later : (d : NewDevice) → is_old (living d 1704072200 None) ≡ false
joins_later d = refl

leaves : (d : NewDevice) → is_old (living d 0 (Some 1704072200)) ≡ false
leaves d = refl

-- a bus before the first entry, and behind it, whether that was withdrawn or not
first_bus : fits_old [] (Bus (codes "BUS-B")) ≡ true
first_bus = refl

later_bus : (e : Entry) → fits_old (e ∷ []) (Bus (codes "BUS-B")) ≡ false
later_bus e = refl

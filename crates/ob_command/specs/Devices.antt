-- Devices as a command adds them.
use Rattle.std.specs.Prelude.{◌≡◌, ℕ, ◌==◌, ◌&&◌, Bool, true, List, [], ◌∷◌, ◌++◌, is_none, codes}
use Rattle.std.specs.List.{join_with_byte}
use Rattle.ob_base.specs.Life.{life}
use Rattle.ob_net.specs.declared.net.Device.{Device}
use Rattle.ob_command.specs.Commands.{body_text, normal_text}
use Rattle.ob_command.specs.declared.command.Command.TheVariants as commands
use Rattle.ob_command.specs.declared.device.NewDevice.{NewDevice}

-- the device between the nodes of two numbers
abbrev pub device_between : NewDevice → ℕ → ℕ → Device
device_between d a b = record { name = d.name; a = a; b = b; normal = d.normal; life = life d.life.since d.life.until }

-- nothing is told of the device beyond its ends and its normal position: it lives without end from the first second on
abbrev pub is_plain : NewDevice → Bool
is_plain d = d.life.since == 0 && is_none d.life.until

-- the words of a device up to its normal position
abbrev pub front_words : NewDevice → List (List ℕ)
front_words d = codes "device" ∷ d.name ∷ d.ends.a ∷ d.ends.b ∷ normal_text d.normal ∷ []

-- what the body text of such a device ends with, behind its normal position
abbrev pub plain_end : List ℕ
plain_end = codes " 0 -"

-- the body text of such a device is that of its words up to its normal position, and one end for all of them
abbrev pub PlainDevicesEnd : Type 0
PlainDevicesEnd =
    (d : NewDevice) → is_plain d ≡ true → body_text (commands.Device d) ≡ join_with_byte 32 (front_words d) ++ plain_end

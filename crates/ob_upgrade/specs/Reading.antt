-- Words for the reading of body texts of version 1.
use Rattle.std.specs.Prelude.{ℕ, ◌&&◌, Bool, not, List, Option, Some, None, codes, take, if◌then◌else◌}
use Rattle.std.specs.Str.{bytes_eq}
use Rattle.ob_command.specs.declared.command.Command.{Command}
use Rattle.ob_upgrade.specs.Old.{is_device, is_old}

-- the text begins as that of a device
abbrev pub is_of_device : List ℕ → Bool
is_of_device text = bytes_eq (take 7 text) (codes "device ")

-- a device of version 1
abbrev pub is_old_device : Command → Bool
is_old_device command = is_device command && is_old command

-- another command of version 1
abbrev pub is_old_other : Command → Bool
is_old_other command = not (is_device command) && is_old command

-- what was found, where it passes
abbrev pub kept_if : (Command → Bool) → Option Command → Option Command
kept_if test None = None
kept_if test (Some command) = if test command then Some command else None

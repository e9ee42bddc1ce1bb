-- The rows of version 1, and the new body texts, on plain cases.
use Rattle.std.proofs.Common.{◌≡◌, refl, [], ◌∷◌, None, codes}
use Rattle.ob_base.specs.declared.Pos.TheVariants.{Closed}
use Rattle.ob_command.specs.Commands.{body_text}
use Rattle.ob_command.specs.Ranges.{end_names}
use Rattle.ob_command.specs.declared.command.Command.{Command as AnyCommand}
use Rattle.ob_command.specs.declared.command.Command.TheVariants.{Bus, Device}
use Rattle.ob_book.specs.Acts.{Referenced}
use Rattle.ob_sql_rows.specs.Rows.{command_row}
use Rattle.ob_sql_check.specs.OldTables.{new_texts, row_of_old_command}

abbrev bus : Referenced
bus = record { reference = codes "N1"; command = Bus (codes "BUS-A") }

abbrev breaker : AnyCommand
breaker = Device (record { name = codes "B1"; ends = end_names (codes "GRID") (codes "BUS-A"); normal = Closed; life = record { since = 0; until = None } })

abbrev device : Referenced
device = record { reference = codes "N2"; command = breaker }

-- a device's row had no life
device_row : row_of_old_command 2 device ≡ command_row 2 (codes "N2") (codes "device B1 GRID BUS-A closed")
device_row = refl

-- the second command adds a device
second : new_texts 1 (bus ∷ device ∷ []) ≡ (2, body_text breaker) ∷ []
second = refl

-- The rows of commands name them.
use Rattle.std.specs.Prelude.{◌≡◌, List, true}
use Rattle.std.specs.List.{AllByRecursion}
use Rattle.std.specs.List.Sorted.{IsPermutation}
use Rattle.ob_base.specs.Identifier.{is_identifier}
use Rattle.ob_command.specs.Commands.{IsCommand}
use Rattle.ob_book.specs.Acts.{Referenced}
use Rattle.ob_record.specs.Tables.{numbered, row_of_command}

-- the reference is one, and so is the command: what their types keep
abbrev pub IsReferenced : Referenced → Type 0
IsReferenced a = (is_identifier 40 a.reference ≡ true) × IsCommand a.command

-- the rows of two lists of commands are the same, in some order, only where the lists are
abbrev pub RowsNameCommands : Type 0
RowsNameCommands =
    (xs ys : List Referenced) → AllByRecursion IsReferenced xs → AllByRecursion IsReferenced ys
    → IsPermutation (numbered row_of_command 1 xs) (numbered row_of_command 1 ys) → xs ≡ ys

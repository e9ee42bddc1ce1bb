-- What a row says to `total` and to a book: one and the same, with two exceptions. A book reads Unix seconds and civil
-- moments, `total` Unix seconds alone. And a book has five kinds of command more: revise, correct, withdraw, mark and
-- unmark. `total` reads a cause's code and name as a book does, and keeps neither.
use Rattle.std.specs.Prelude.{◌≡◌, ◌⊎◌, ℕ, Bool, true, false, List, [], ◌∷◌, Result, Ok, Err, IsErr, codes}
use Rattle.std.specs.List.{All, Any, list_any}
use Rattle.std.specs.Str.{bytes_eq}
use Rattle.ob_base.specs.declared.stop.Refusal.{Refusal}
use Rattle.ob_base.specs.declared.stop.Refusal.TheVariants.{BadField}
use Rattle.ob_base.specs.Life.{life}
use Rattle.ob_csv.specs.Rows.{Fields}
use Rattle.ob_time.specs.Moment.{IsCivilText}
use Rattle.ob_command.specs.Fields.{IsRow}
use Rattle.ob_command.specs.declared.command.Command.{Command as BookCommand}
use Rattle.ob_command.specs.declared.command.Command.TheVariants as book
use Rattle.ob_total.specs.Commands.{column, command_of}
use Rattle.ob_total.specs.declared.command.Command.{Command}
use Rattle.ob_total.specs.declared.command.Command.TheVariants.{Cause, Bus, Section, Device, Life, Connect, Switch}

-- a book's command with the values that `total` takes; a kind that it doesn't have is refused in column 1
abbrev pub as_counted : BookCommand → Result Command Refusal
as_counted (book.Cause code name) = Ok Cause
as_counted (book.Bus name) = Ok (Bus name)
as_counted (book.Section name feeder) = Ok (Section name feeder)
as_counted (book.Device d) = Ok (Device d.name d.ends.a d.ends.b d.normal (life d.life.since d.life.until))
as_counted (book.Life device s) = Ok (Life device (life s.since s.until))
as_counted (book.Connect customer section s) = Ok (Connect customer section s.since s.until)
as_counted (book.Revise customer s) = Err (BadField 1)
as_counted (book.Switch device o) = Ok (Switch device o.act o.second o.cause o.crew)
as_counted (book.Correct entry revision o) = Err (BadField 1)
as_counted (book.Withdraw entry revision) = Err (BadField 1)
as_counted (book.Mark date engineer) = Err (BadField 1)
as_counted (book.Unmark date engineer) = Err (BadField 1)

-- the same of what a book reads in a row: a reference and a command, or a refusal
abbrev pub read_as_counted : Result (List ℕ × BookCommand) Refusal → Result Command Refusal
read_as_counted (Ok read) = as_counted read.1
read_as_counted (Err refusal) = Err refusal

-- the kind is one that a book alone has
abbrev pub is_of_book_alone : Fields → Bool
is_of_book_alone row =
    list_any (bytes_eq (column row 1)) (codes "revise" ∷ codes "correct" ∷ codes "withdraw" ∷ codes "mark" ∷ codes "unmark" ∷ [])

-- the text is a civil moment
abbrev pub IsCivil : List ℕ → Type 0
IsCivil text = (s : ℕ) × IsCivilText text s

-- no field is a civil moment: moments are in Unix seconds
abbrev pub HasUnixSeconds : Fields → Type 0
HasUnixSeconds row = All (λ field. ¬ (IsCivil field)) row

-- such a row of any other kind is read alike: as the same command, or with the same column refused
abbrev pub RowsAreReadAlike : Type 0
RowsAreReadAlike =
    (row : Fields) (said : Result (List ℕ × BookCommand) Refusal)
    → IsRow row said → is_of_book_alone row ≡ false → HasUnixSeconds row → command_of row ≡ read_as_counted said

-- whatever row `total` takes, a book reads as the same command
abbrev pub TakenRowsAreRead : Type 0
TakenRowsAreRead =
    (row : Fields) (said : Result (List ℕ × BookCommand) Refusal) (command : Command)
    → IsRow row said → command_of row ≡ Ok command → read_as_counted said ≡ Ok command

-- `total` refuses a row with a civil moment in it, or of a kind that a book alone has
abbrev pub OtherRowsAreRefused : Type 0
OtherRowsAreRefused = (row : Fields) → (is_of_book_alone row ≡ true) ⊎ Any IsCivil row → IsErr (command_of row)

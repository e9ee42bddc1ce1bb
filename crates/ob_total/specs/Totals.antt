-- The total of a text: its rows taken in order, up to the first refusal.
use Rattle.std.specs.Prelude.{ℕ, ◌+◌, List, [], ◌∷◌, ◌++◌, Result, Ok, Err, nat_lt, codes, if◌then◌else◌}
use Rattle.std.specs.Fmt.{decimal}
use Rattle.ob_base.specs.declared.stop.Refusal.{Refusal}
use Rattle.ob_base.specs.declared.stop.Refusal.TheVariants.{BadField, Full}
use Rattle.ob_csv.specs.Header.{is_header}
use Rattle.ob_csv.specs.Rows.{Fields, rows_of}
use Rattle.ob_total.specs.Commands.{command_of, span_of}
use Rattle.ob_total.specs.declared.command.Command.{Command}
use Rattle.ob_total.specs.declared.command.Span.{Span}
use Rattle.ob_total.specs.Worlds.{WorldState, customer_seconds_of, empty_world, next}

-- a refusal, and the row where it stands
abbrev pub Refused : Type 0
Refused = Refusal × ℕ

-- what follows a row, or its refusal
abbrev pub after_row : ℕ → (WorldState → Result ℕ Refused) → Result WorldState Refusal → Result ℕ Refused
after_row number later (Ok world) = later world
after_row number later (Err refusal) = Err (refusal, number)

-- the world of the span, or why there is none
abbrev pub begun : Result Span Refusal → Result WorldState Refusal
begun (Ok span) = Ok (empty_world span)
begun (Err refusal) = Err refusal

-- the world after a command, or why there is none
abbrev pub stepped : WorldState → Result Command Refusal → Result WorldState Refusal
stepped world (Ok command) = next world command
stepped world (Err refusal) = Err refusal

-- the total after the rows that are numbered from this number on, or the first refusal
unfoldable pub total_from : ℕ → WorldState → List Fields → Result ℕ Refused
total_from number world [] = Ok (customer_seconds_of world)
total_from number world (row ∷ rows) =
    if nat_lt 1_000_000 number then Err (Full 1_000_000, number)
    else after_row number (λ later. total_from (number + 1) later rows) (stepped world (command_of row))

-- the total of the rows after the header, of which the first is the span
abbrev pub total_of_body : List Fields → Result ℕ Refused
total_of_body [] = Err (BadField 0, 0)
total_of_body (row ∷ rows) = after_row 1 (λ world. total_from 2 world rows) (begun (span_of row))

-- the total of a text, or the first refusal
abbrev pub total_of_rows : List Fields → Result ℕ Refused
total_of_rows [] = Err (BadField 0, 0)
total_of_rows (header ∷ rows) = if is_header header then total_of_body rows else Err (BadField 0, 0)

abbrev pub total_of : List ℕ → Result ℕ Refused
total_of text = total_of_rows (rows_of text)

-- the line that says a total
abbrev pub total_line : ℕ → List ℕ
total_line total = codes "W " ++ (decimal total ++ (10 ∷ []))

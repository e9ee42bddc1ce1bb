-- What the rows of a text say: the span first, then commands. The leftmost bad column is refused.
use Rattle.std.specs.Prelude.{ℕ, ◌≢◌, ◌<◌, ◌≤◌, ◌+◌, ◌-◌, ◌^◌, ◌&&◌, ◌==◌, List, [], ◌∷◌, drop, get_or, length, nat_lt, Option, Some, None, Result, Ok, Err, option_and_then, codes, if◌then◌else◌}
use Rattle.std.specs.Str.{bytes_eq}
use Rattle.ob_base.specs.Fields.{act_in, cause_in, feeder_in, normal_in, serial_in, unix_second_in, until_in}
use Rattle.ob_base.specs.Identifier.{identifier_in}
use Rattle.ob_base.specs.declared.stop.Refusal.{Refusal}
use Rattle.ob_base.specs.declared.stop.Refusal.TheVariants.{BadField}
use Rattle.ob_csv.specs.Header.{columns}
use Rattle.ob_csv.specs.Rows.{Fields}
use Rattle.ob_total.specs.declared.command.Command.{Command}
use Rattle.ob_total.specs.declared.command.Command.TheVariants.{Cause, Bus, Section, Device, Life, Connect, Switch}
use Rattle.ob_total.specs.declared.command.Kind.{Kind}
use Rattle.ob_total.specs.declared.command.Kind.TheVariants as kinds
use Rattle.ob_total.specs.declared.command.Span.{Span}

-- the field of a column: columns are numbered from 1
abbrev pub column : Fields → ℕ → List ℕ
column row number = get_or row (number - 1) []

-- what follows a row that has all columns
abbrev pub with_columns : {B : Type 0} → Fields → Result B Refusal → Result B Refusal
with_columns row rest = if length row == columns then rest else Err (BadField 0)

-- what follows a value, or the refusal of its column
abbrev pub with_value : {A B : Type 0} → ℕ → Option A → (A → Result B Refusal) → Result B Refusal
with_value number None rest = Err (BadField number)
with_value number (Some value) rest = rest value

-- what follows the value that a column says, or the refusal of the column
abbrev pub with_column : {A B : Type 0} → Fields → ℕ → (List ℕ → Option A) → (A → Result B Refusal) → Result B Refusal
with_column row number read rest = with_value number (read (column row number)) rest

-- what follows, where these fields, of a column and of those behind it, are empty
abbrev pub with_empty : {B : Type 0} → ℕ → Fields → Result B Refusal → Result B Refusal
with_empty number [] rest = rest
with_empty number ([] ∷ fields) rest = with_empty (number + 1) fields rest
with_empty number ((byte ∷ bytes) ∷ fields) rest = Err (BadField number)

-- what follows, where the columns from this one on are empty
abbrev pub with_unused : {B : Type 0} → Fields → ℕ → Result B Refusal → Result B Refusal
with_unused row number rest = with_empty number (drop (number - 1) row) rest

-- the end of a span: above its first second, by less than 2^25
abbrev pub span_end_in : ℕ → List ℕ → Option ℕ
span_end_in first text =
    option_and_then (λ end. if nat_lt first end && nat_lt end (first + 2 ^ 25) then Some end else None) (unix_second_in text)

-- the span that the first row says
abbrev pub span_of : Fields → Result Span Refusal
span_of row = with_columns row (
    if bytes_eq (column row 1) (codes "span") then
    with_column row 2 (identifier_in 40) (λ r.
    with_column row 3 unix_second_in (λ first.
    with_column row 4 (span_end_in first) (λ end.
    with_unused row 5 (Ok (record { first = first; end = end })))))
    else Err (BadField 1))

abbrev pub cause_of : Fields → Result Command Refusal
cause_of row =
    with_column row 3 cause_in (λ code. with_column row 4 (identifier_in 24) (λ name. with_unused row 5 (Ok Cause)))

abbrev pub bus_of : Fields → Result Command Refusal
bus_of row = with_column row 3 (identifier_in 24) (λ name. with_unused row 4 (Ok (Bus name)))

abbrev pub section_of : Fields → Result Command Refusal
section_of row =
    with_column row 3 (identifier_in 24) (λ name. with_column row 4 feeder_in (λ feeder. with_unused row 5 (Ok (Section name feeder))))

-- the second node of a device, which isn't the first
abbrev pub other_node_in : List ℕ → List ℕ → Option (List ℕ)
other_node_in a text = option_and_then (λ b. if bytes_eq a b then None else Some b) (identifier_in 24 text)

-- the beginning of a life: an empty text is 0
abbrev pub since_in : List ℕ → Option ℕ
since_in [] = Some 0
since_in (byte ∷ bytes) = unix_second_in (byte ∷ bytes)

-- a total has no use for what stands behind a device's life
abbrev pub device_of : Fields → Result Command Refusal
device_of row =
    with_column row 3 (identifier_in 24) (λ name.
    with_column row 4 (identifier_in 24) (λ a.
    with_column row 5 (other_node_in a) (λ b.
    with_column row 6 normal_in (λ normal.
    with_column row 7 since_in (λ since.
    with_column row 8 (until_in unix_second_in) (λ until. Ok (Device name a b normal (record { since = since; until = until }))))))))

abbrev pub life_of : Fields → Result Command Refusal
life_of row =
    with_column row 3 (identifier_in 24) (λ name.
    with_column row 4 since_in (λ since.
    with_column row 5 (until_in unix_second_in) (λ until. with_unused row 6 (Ok (Life name (record { since = since; until = until }))))))

abbrev pub connect_of : Fields → Result Command Refusal
connect_of row =
    with_column row 3 serial_in (λ customer.
    with_column row 4 (identifier_in 24) (λ section.
    with_column row 5 unix_second_in (λ since.
    with_column row 6 (until_in unix_second_in) (λ until. with_unused row 7 (Ok (Connect customer section since until))))))

abbrev pub switch_of : Fields → Result Command Refusal
switch_of row =
    with_column row 3 (identifier_in 24) (λ device.
    with_column row 4 act_in (λ pos.
    with_column row 5 unix_second_in (λ second.
    with_column row 6 cause_in (λ cause.
    with_column row 7 (identifier_in 16) (λ crew. with_unused row 8 (Ok (Switch device pos second cause crew)))))))

-- the kind of a command
abbrev pub kind_in : List ℕ → Option Kind
kind_in text =
    if bytes_eq text (codes "cause") then Some kinds.Cause
    else if bytes_eq text (codes "bus") then Some kinds.Bus
    else if bytes_eq text (codes "section") then Some kinds.Section
    else if bytes_eq text (codes "device") then Some kinds.Device
    else if bytes_eq text (codes "life") then Some kinds.Life
    else if bytes_eq text (codes "connect") then Some kinds.Connect
    else if bytes_eq text (codes "switch") then Some kinds.Switch
    else None

-- the command of a kind that a row says
abbrev pub command_by : Kind → Fields → Result Command Refusal
command_by kinds.Cause row = cause_of row
command_by kinds.Bus row = bus_of row
command_by kinds.Section row = section_of row
command_by kinds.Device row = device_of row
command_by kinds.Life row = life_of row
command_by kinds.Connect row = connect_of row
command_by kinds.Switch row = switch_of row

-- the command that a row after the first says
abbrev pub command_of : Fields → Result Command Refusal
command_of row = with_columns row (with_column row 1 kind_in (λ kind. with_column row 2 (identifier_in 40) (λ r. command_by kind row)))

-- what each command that was read keeps: a section's feeder is numbered from 1, a device's nodes are two
abbrev pub IsCommand : Command → Type 0
IsCommand Cause = Unit {0}
IsCommand (Bus name) = Unit {0}
IsCommand (Section name feeder) = 1 ≤ feeder
IsCommand (Device name a b normal life) = a ≢ b
IsCommand (Life name life) = Unit {0}
IsCommand (Connect customer section since until) = Unit {0}
IsCommand (Switch device pos second cause crew) = Unit {0}

-- what each span that was read keeps: it is not empty, shorter than 2^25 seconds and lies in time
pub record IsSpan (span : Span) : Type 0 where
  pub some : span.first < span.end
  pub short : span.end < span.first + 2 ^ 25
  pub last : span.end ≤ 99_999_999_999

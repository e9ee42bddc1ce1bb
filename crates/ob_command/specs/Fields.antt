-- The command of a kind and six fields, or the leftmost column that can't be read.
use Rattle.std.specs.Prelude.{◌≡◌, ℕ, ◌+◌, List, [], ◌∷◌, Option, Some, None, Result, Ok, Err, codes, if◌then◌else◌}
use Rattle.std.specs.Str.{bytes_eq}
use Rattle.jiff.specs.Types.{Date}
use Rattle.ob_base.specs.Fields.{act_in, cause_in, feeder_in, normal_in, serial_in}
use Rattle.ob_base.specs.Identifier.{identifier_in}
use Rattle.ob_base.specs.declared.stop.Refusal.{Refusal}
use Rattle.ob_base.specs.declared.stop.Refusal.TheVariants.{BadField}
use Rattle.ob_time.specs.Moment.{IsDateText}
use Rattle.ob_command.specs.Commands.{operation_of, service_between}
use Rattle.ob_command.specs.Spellings.{crew_in, end_as, ends_from, name_in, number_as, start_as, Gives, IsMomentAs}
use Rattle.ob_command.specs.declared.command.Command.{Command}
use Rattle.ob_command.specs.declared.command.Command.TheVariants.{Cause, Bus, Section, Device, Life, Connect, Revise, Switch, Correct, Withdraw, Mark, Unmark}
use Rattle.ob_command.specs.declared.kind.Kind.{Kind}
use Rattle.ob_command.specs.declared.kind.Kind.TheVariants as kinds
use Rattle.ob_command.specs.declared.operation.Operation.{Operation}
use Rattle.ob_command.specs.declared.service.Service.{Service}
use Rattle.ob_command.specs.declared.spelling.Spelling.{Spelling}
use Rattle.ob_command.specs.declared.spelling.Spelling.TheVariants.{Free}

-- the kind of a command
abbrev pub kind_in : List ℕ → Option Kind
kind_in text =
    if bytes_eq text (codes "cause") then Some kinds.Cause
    else if bytes_eq text (codes "bus") then Some kinds.Bus
    else if bytes_eq text (codes "section") then Some kinds.Section
    else if bytes_eq text (codes "device") then Some kinds.Device
    else if bytes_eq text (codes "life") then Some kinds.Life
    else if bytes_eq text (codes "connect") then Some kinds.Connect
    else if bytes_eq text (codes "revise") then Some kinds.Revise
    else if bytes_eq text (codes "switch") then Some kinds.Switch
    else if bytes_eq text (codes "correct") then Some kinds.Correct
    else if bytes_eq text (codes "withdraw") then Some kinds.Withdraw
    else if bytes_eq text (codes "mark") then Some kinds.Mark
    else if bytes_eq text (codes "unmark") then Some kinds.Unmark
    else None

-- what follows the value of a column, or the refusal of the column
abbrev pub with_field : {A B : Type 0} → ℕ → Option A → (A → Result B Refusal) → Result B Refusal
with_field column None rest = Err (BadField column)
with_field column (Some value) rest = rest value

-- what follows what was read, or its refusal
abbrev pub with_read : {A B : Type 0} → Result A Refusal → (A → Result B Refusal) → Result B Refusal
with_read (Err refusal) rest = Err refusal
with_read (Ok value) rest = rest value

-- what follows, where the fields from a column on are empty
abbrev pub with_unused : {B : Type 0} → ℕ → List (List ℕ) → Result B Refusal → Result B Refusal
with_unused column [] rest = rest
with_unused column ([] ∷ fields) rest = with_unused (column + 1) fields rest
with_unused column ((byte ∷ bytes) ∷ fields) rest = Err (BadField column)

-- a service or a life: its beginning in a column, its end in the next one
abbrev pub service_in : ℕ → Option ℕ → Option (Option ℕ) → Result Service Refusal
service_in column since until = with_field column since (λ from. with_field (column + 1) until (λ to. Ok (service_between from to)))

-- an operation: its act, second, cause and crew, in four columns from one on
abbrev pub operation_in : Spelling → ℕ → List ℕ → Option ℕ → List ℕ → List ℕ → Result Operation Refusal
operation_in s column f1 moment f3 f4 =
    with_field column (act_in f1) (λ act.
    with_field (column + 1) moment (λ second.
    with_field (column + 2) (number_as s cause_in f3) (λ cause.
    with_field (column + 3) (crew_in f4) (λ crew. Ok (operation_of act second cause crew)))))

-- each kind: its columns from the left, then those that are empty

abbrev pub cause_of : Spelling → List ℕ → List ℕ → List (List ℕ) → Result Command Refusal
cause_of s f1 f2 rest =
    with_field 3 (number_as s cause_in f1) (λ code. with_field 4 (name_in f2) (λ name. with_unused 5 rest (Ok (Cause code name))))

abbrev pub bus_of : List ℕ → List (List ℕ) → Result Command Refusal
bus_of f1 rest = with_field 3 (name_in f1) (λ name. with_unused 4 rest (Ok (Bus name)))

abbrev pub section_of : Spelling → List ℕ → List ℕ → List (List ℕ) → Result Command Refusal
section_of s f1 f2 rest =
    with_field 3 (name_in f1) (λ name. with_field 4 (number_as s feeder_in f2) (λ feeder. with_unused 5 rest (Ok (Section name feeder))))

abbrev pub device_of : List ℕ → List ℕ → List ℕ → List ℕ → Option ℕ → Option (Option ℕ) → Result Command Refusal
device_of f1 f2 f3 f4 since until =
    with_field 3 (name_in f1) (λ name.
    with_field 4 (name_in f2) (λ a.
    with_field 5 (ends_from a f3) (λ ends.
    with_field 6 (normal_in f4) (λ normal.
    with_read (service_in 7 since until) (λ life. Ok (Device (record { name = name; ends = ends; normal = normal; life = life })))))))

abbrev pub life_of : List ℕ → Option ℕ → Option (Option ℕ) → List (List ℕ) → Result Command Refusal
life_of f1 since until rest =
    with_field 3 (name_in f1) (λ device.
    with_read (service_in 4 since until) (λ life. with_unused 6 rest (Ok (Life device life))))

abbrev pub connect_of : Spelling → List ℕ → List ℕ → Option ℕ → Option (Option ℕ) → List (List ℕ) → Result Command Refusal
connect_of s f1 f2 since until rest =
    with_field 3 (number_as s serial_in f1) (λ customer.
    with_field 4 (name_in f2) (λ section.
    with_read (service_in 5 since until) (λ service. with_unused 7 rest (Ok (Connect customer section service)))))

abbrev pub revise_of : Spelling → List ℕ → Option ℕ → Option (Option ℕ) → List (List ℕ) → Result Command Refusal
revise_of s f1 since until rest =
    with_field 3 (number_as s serial_in f1) (λ customer.
    with_read (service_in 4 since until) (λ service. with_unused 6 rest (Ok (Revise customer service))))

abbrev pub switch_of : Spelling → List ℕ → List ℕ → Option ℕ → List ℕ → List ℕ → List (List ℕ) → Result Command Refusal
switch_of s f1 f2 moment f4 f5 rest =
    with_field 3 (name_in f1) (λ device.
    with_read (operation_in s 4 f2 moment f4 f5) (λ operation. with_unused 8 rest (Ok (Switch device operation))))

abbrev pub correct_of : Spelling → List ℕ → List ℕ → List ℕ → Option ℕ → List ℕ → List ℕ → Result Command Refusal
correct_of s f1 f2 f3 moment f5 f6 =
    with_field 3 (number_as s serial_in f1) (λ entry.
    with_field 4 (number_as s serial_in f2) (λ revision.
    with_read (operation_in s 5 f3 moment f5 f6) (λ operation. Ok (Correct entry revision operation))))

abbrev pub withdraw_of : Spelling → List ℕ → List ℕ → List (List ℕ) → Result Command Refusal
withdraw_of s f1 f2 rest =
    with_field 3 (number_as s serial_in f1) (λ entry.
    with_field 4 (number_as s serial_in f2) (λ revision. with_unused 5 rest (Ok (Withdraw entry revision))))

abbrev pub mark_of : Option Date → List ℕ → List (List ℕ) → Result Command Refusal
mark_of day f2 rest =
    with_field 3 day (λ date. with_field 4 (crew_in f2) (λ engineer. with_unused 5 rest (Ok (Mark date engineer))))

abbrev pub unmark_of : Option Date → List ℕ → List (List ℕ) → Result Command Refusal
unmark_of day f2 rest =
    with_field 3 day (λ date. with_field 4 (crew_in f2) (λ engineer. with_unused 5 rest (Ok (Unmark date engineer))))

-- this is what the six fields of a kind say: the command, or the leftmost bad column
abbrev pub AreFieldsOf : Spelling → Kind → List ℕ → List ℕ → List ℕ → List ℕ → List ℕ → List ℕ → Result Command Refusal → Type 0
AreFieldsOf s kinds.Cause f1 f2 f3 f4 f5 f6 r = r ≡ cause_of s f1 f2 (f3 ∷ f4 ∷ f5 ∷ f6 ∷ [])
AreFieldsOf s kinds.Bus f1 f2 f3 f4 f5 f6 r = r ≡ bus_of f1 (f2 ∷ f3 ∷ f4 ∷ f5 ∷ f6 ∷ [])
AreFieldsOf s kinds.Section f1 f2 f3 f4 f5 f6 r = r ≡ section_of s f1 f2 (f3 ∷ f4 ∷ f5 ∷ f6 ∷ [])
AreFieldsOf s kinds.Device f1 f2 f3 f4 f5 f6 r =
    (since : Option ℕ) × (until : Option ℕ) × IsMomentAs s f5 since × IsMomentAs s f6 until
    × (r ≡ device_of f1 f2 f3 f4 (start_as s f5 since) (end_as s f6 until))
AreFieldsOf s kinds.Life f1 f2 f3 f4 f5 f6 r =
    (since : Option ℕ) × (until : Option ℕ) × IsMomentAs s f2 since × IsMomentAs s f3 until
    × (r ≡ life_of f1 (start_as s f2 since) (end_as s f3 until) (f4 ∷ f5 ∷ f6 ∷ []))
AreFieldsOf s kinds.Connect f1 f2 f3 f4 f5 f6 r =
    (since : Option ℕ) × (until : Option ℕ) × IsMomentAs s f3 since × IsMomentAs s f4 until × (r ≡ connect_of s f1 f2 since (end_as s f4 until) (f5 ∷ f6 ∷ []))
AreFieldsOf s kinds.Revise f1 f2 f3 f4 f5 f6 r =
    (since : Option ℕ) × (until : Option ℕ) × IsMomentAs s f2 since × IsMomentAs s f3 until × (r ≡ revise_of s f1 since (end_as s f3 until) (f4 ∷ f5 ∷ f6 ∷ []))
AreFieldsOf s kinds.Switch f1 f2 f3 f4 f5 f6 r =
    (moment : Option ℕ) × IsMomentAs s f3 moment × (r ≡ switch_of s f1 f2 moment f4 f5 (f6 ∷ []))
AreFieldsOf s kinds.Correct f1 f2 f3 f4 f5 f6 r =
    (moment : Option ℕ) × IsMomentAs s f4 moment × (r ≡ correct_of s f1 f2 f3 moment f5 f6)
AreFieldsOf s kinds.Withdraw f1 f2 f3 f4 f5 f6 r = r ≡ withdraw_of s f1 f2 (f3 ∷ f4 ∷ f5 ∷ f6 ∷ [])
AreFieldsOf s kinds.Mark f1 f2 f3 f4 f5 f6 r =
    (day : Option Date) × Gives IsDateText f1 day × (r ≡ mark_of day f2 (f3 ∷ f4 ∷ f5 ∷ f6 ∷ []))
AreFieldsOf s kinds.Unmark f1 f2 f3 f4 f5 f6 r =
    (day : Option Date) × Gives IsDateText f1 day × (r ≡ unmark_of day f2 (f3 ∷ f4 ∷ f5 ∷ f6 ∷ []))

-- what follows the kind, or what holds of an unknown one
abbrev pub IsOfKind : Option Kind → (Kind → Type 0) → Type 0 → Type 0
IsOfKind None rest unknown = unknown
IsOfKind (Some kind) rest unknown = rest kind

-- a command with its reference, or the command's refusal
abbrev pub referred : List ℕ → Result Command Refusal → Result (List ℕ × Command) Refusal
referred reference (Ok command) = Ok (reference, command)
referred reference (Err refusal) = Err refusal

-- what follows the reference, which is column 2
abbrev pub IsReferred : Option (List ℕ) → (Result Command Refusal → Type 0) → Result (List ℕ × Command) Refusal → Type 0
IsReferred None rest r = r ≡ Err (BadField 2)
IsReferred (Some reference) rest r = (command : Result Command Refusal) × rest command × (r ≡ referred reference command)

-- this is what a row says: its reference and its command, or the leftmost bad column
abbrev pub IsRow : List (List ℕ) → Result (List ℕ × Command) Refusal → Type 0
IsRow (kind ∷ reference ∷ f1 ∷ f2 ∷ f3 ∷ f4 ∷ f5 ∷ f6 ∷ []) r =
    IsOfKind (kind_in kind) (λ k. IsReferred (identifier_in 40 reference) (AreFieldsOf Free k f1 f2 f3 f4 f5 f6) r) (r ≡ Err (BadField 1))
IsRow row r = r ≡ Err (BadField 0)

-- a row of eight fields says one thing
abbrev pub RowsSayOneThing : Type 0
RowsSayOneThing = (kind reference f1 f2 f3 f4 f5 f6 : List ℕ) (a b : Result (List ℕ × Command) Refusal)
    → IsRow (kind ∷ reference ∷ f1 ∷ f2 ∷ f3 ∷ f4 ∷ f5 ∷ f6 ∷ []) a → IsRow (kind ∷ reference ∷ f1 ∷ f2 ∷ f3 ∷ f4 ∷ f5 ∷ f6 ∷ []) b → a ≡ b

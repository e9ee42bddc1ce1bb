-- Why a command isn't accepted: the first of its kind's refusals that has a cause, and then the full book.
use Rattle.std.specs.Prelude.{ℕ, ◌==◌, ◌||◌, Bool, not, nat_le, nat_lt, List, [], ◌∷◌, ◌++◌, Option, Some, None, is_none, if◌then◌else◌, length}
use Rattle.ob_base.specs.Life.{life, life_refusal}
use Rattle.ob_base.specs.declared.stop.Refusal.{Refusal}
use Rattle.ob_base.specs.declared.stop.Refusal.TheVariants.{UnknownName, NameTaken, OutOfPeriod, Full, UnknownCause}
use Rattle.ob_net.specs.Network.{Network, node_refusal, device_refusal, device_of, section_of}
use Rattle.ob_sheet.specs.declared.Entry.{Entry}
use Rattle.ob_sheet.specs.Revisions.{revision_refusal}
use Rattle.ob_cust.specs.Roll.{connect_refusal, revise_refusal}
use Rattle.ob_cust.specs.declared.Customer.{Customer}
use Rattle.ob_time.specs.Calendar.{Calendar, first_second_of, end_second_of, day_on}
use Rattle.ob_index.specs.Marks.{mark_refusal, unmark_refusal}
use Rattle.ob_command.specs.declared.command.Command.{Command}
use Rattle.ob_command.specs.declared.command.Command.TheVariants.{Cause, Bus, Section, Device, Life, Connect, Revise, Switch, Correct, Withdraw, Mark, Unmark}
use Rattle.ob_state.specs.State.{BookState, has_cause, has_cause_name}
use Rattle.jiff.specs.Words.{epoch_day}

-- the refusal where the test holds
abbrev pub refuse_if : Bool → Refusal → Option Refusal
refuse_if test refusal = if test then Some refusal else None

-- the first refusal of a list
abbrev pub first : List (Option Refusal) → Option Refusal
first [] = None
first (None ∷ rs) = first rs
first (Some r ∷ rs) = Some r

-- the second lies outside the period
abbrev pub if_outside : Calendar → ℕ → Option Refusal
if_outside period second = refuse_if (nat_lt second (first_second_of period) || nat_le (end_second_of period) second) OutOfPeriod

-- no cause has the code
abbrev pub if_unknown_cause : List (Option (List ℕ)) → ℕ → Option Refusal
if_unknown_cause causes code = refuse_if (not (has_cause causes code)) UnknownCause

-- no device has the name
abbrev pub if_unknown_device : Network → List ℕ → Option Refusal
if_unknown_device net name = refuse_if (is_none (device_of net name)) UnknownName

-- the sheet takes no more entries
abbrev pub if_full_sheet : List Entry → Option Refusal
if_full_sheet entries = refuse_if (length entries == 50_000) (Full 50_000)

-- no section has the name, or the roll refuses the customer on the one that has it
abbrev pub connect_refusal_on : Option ℕ → List Customer → ℕ → ℕ → Option ℕ → Option Refusal
connect_refusal_on None customers number since until = Some UnknownName
connect_refusal_on (Some section) customers number since until =
    connect_refusal customers (record { «no» = number; section = section; since = since; until = until })

-- the date isn't a day of the period, or the day is refused
abbrev pub day_refusal : Option ℕ → (ℕ → Option Refusal) → Option Refusal
day_refusal None refusal_of = Some OutOfPeriod
day_refusal (Some day) refusal_of = refusal_of day

-- what each kind of command is refused for, in order
abbrev pub refusals : BookState → Command → List (Option Refusal)
refusals b (Cause code name) = refuse_if (has_cause b.causes code || has_cause_name b.causes name) NameTaken ∷ []
refusals b (Bus name) = node_refusal b.network name ∷ []
refusals b (Section name feeder) = node_refusal b.network name ∷ []
refusals b (Device d) = device_refusal b.network d.name d.ends.a d.ends.b (life d.life.since d.life.until) ∷ []
refusals b (Life device s) = if_unknown_device b.network device ∷ life_refusal (life s.since s.until) ∷ []
refusals b (Connect customer section s) = connect_refusal_on (section_of b.network section) b.customers customer s.since s.until ∷ []
refusals b (Revise customer s) = revise_refusal b.customers customer s.since s.until ∷ []
refusals b (Switch device o) =
    if_unknown_device b.network device
    ∷ if_outside b.period o.second
    ∷ if_unknown_cause b.causes o.cause
    ∷ if_full_sheet b.entries
    ∷ []
refusals b (Correct entry revision o) =
    revision_refusal b.entries entry revision ∷ if_outside b.period o.second ∷ if_unknown_cause b.causes o.cause ∷ []
refusals b (Withdraw entry revision) = revision_refusal b.entries entry revision ∷ []
refusals b (Mark date engineer) = day_refusal (day_on b.period (epoch_day date)) (mark_refusal b.marks) ∷ []
refusals b (Unmark date engineer) = day_refusal (day_on b.period (epoch_day date)) (unmark_refusal b.marks) ∷ []

-- no more commands are accepted
abbrev pub if_full : BookState → Option Refusal
if_full b = refuse_if (b.accepted == 1_000_000) (Full 1_000_000)

-- why the command isn't accepted; None where it is
abbrev pub refusal : BookState → Command → Option Refusal
refusal b command = first (refusals b command ++ if_full b ∷ [])

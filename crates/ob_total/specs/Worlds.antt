-- What a text has said so far: the span, the network, the sheet and the roll; and each command's one change.
use Rattle.std.specs.Prelude.{ℕ, ◌<◌, ◌==◌, ◌||◌, List, [], ◌∷◌, ◌++◌, length, nat_lt, nat_le, Option, Some, None, Result, Ok, Err, if◌then◌else◌}
use Rattle.std.specs.List.{All}
use Rattle.ob_net.specs.Network.{Network, device_of, device_refusal, grid_alone, node_refusal, section_of, with_device, with_life, with_node}
use Rattle.ob_base.specs.Life.{life_refusal}
use Rattle.ob_base.specs.declared.stop.Refusal.{Refusal}
use Rattle.ob_base.specs.declared.stop.Refusal.TheVariants.{Full, OutOfPeriod, UnknownName}
use Rattle.ob_base.specs.Seconds.{seconds}
use Rattle.ob_sheet.specs.Sheet.{NameDevices, new_entry}
use Rattle.ob_sheet.specs.Supply.{is_deenergized}
use Rattle.ob_sheet.specs.declared.Entry.{Entry}
use Rattle.ob_cust.specs.Roll.{connect_refusal, with_customer}
use Rattle.ob_cust.specs.WithoutSupply.{seconds_without_supply}
use Rattle.ob_cust.specs.declared.Customer.{Customer}
use Rattle.ob_total.specs.Commands.{IsSpan}
use Rattle.ob_total.specs.declared.command.Command.{Command}
use Rattle.ob_total.specs.declared.command.Command.TheVariants.{Cause, Bus, Section, Device, Life, Connect, Switch}
use Rattle.ob_total.specs.declared.command.Span.{Span}

pub record WorldState : Type 0 where
  pub span : Span
  pub network : Network
  pub entries : List Entry
  pub customers : List Customer

-- entries name devices, customers nodes
pub record IsWorld (w : WorldState) : Type 0 where
  pub span : IsSpan w.span
  pub devices : NameDevices (length w.network.devices) w.entries
  pub sections : All (λ c. c.section < length w.network.nodes) w.customers

-- GRID alone, nothing entered and nobody connected
abbrev pub empty_world : Span → WorldState
empty_world span = record { span = span; network = grid_alone; entries = []; customers = [] }

-- the change, where nothing refuses it
abbrev pub unless_refused : {A : Type 0} → Option Refusal → A → Result A Refusal
unless_refused None changed = Ok changed
unless_refused (Some refusal) changed = Err refusal

-- what follows the number that a name stands for
abbrev pub with_known : {A : Type 0} → Option ℕ → (ℕ → Result A Refusal) → Result A Refusal
with_known None rest = Err UnknownName
with_known (Some number) rest = rest number

-- why no entry of this second can be entered
abbrev pub switch_refusal : Span → List Entry → ℕ → Option Refusal
switch_refusal span entries second =
    if nat_lt second span.first || nat_le span.end second then Some OutOfPeriod else
    if length entries == 50_000 then Some (Full 50_000) else None

-- the one change of a command, or its first refusal
abbrev pub next : WorldState → Command → Result WorldState Refusal
next w Cause = Ok w
next w (Bus name) =
    unless_refused (node_refusal w.network name) (record w { network = with_node w.network (record { name = name; feeder = None }) })
next w (Section name feeder) =
    unless_refused (node_refusal w.network name) (record w { network = with_node w.network (record { name = name; feeder = Some feeder }) })
next w (Device name a b normal life) =
    unless_refused (device_refusal w.network name a b life) (record w { network = with_device w.network name a b normal life })
next w (Life name life) = with_known (device_of w.network name) (λ d.
    unless_refused (life_refusal life) (record w { network = with_life w.network d life }))
next w (Connect customer section since until) = with_known (section_of w.network section) (λ v.
    let c : Customer = record { «no» = customer; section = v; since = since; until = until } in
    unless_refused (connect_refusal w.customers c) (record w { customers = with_customer c w.customers }))
next w (Switch device pos second cause crew) = with_known (device_of w.network device) (λ d.
    unless_refused (switch_refusal w.span w.entries second) (record w { entries = w.entries ++ new_entry w.entries d pos second cause crew ∷ [] }))

-- the customer-seconds without supply: one for each second of the span and each customer that is in service then, on a section from which no walk of devices that are closed then leads to GRID; a device is open outside its life
abbrev pub customer_seconds_of : WorldState → ℕ
customer_seconds_of w = seconds_without_supply (is_deenergized w.network w.entries) (seconds w.span.first w.span.end) w.customers

-- The supply at a second: which sections are without it, since when and why, and how the devices stand.
use Rattle.std.specs.Prelude.{ℕ, ◌+◌, ◌&&◌, Bool, nat_le, nat_lt, List, Option, Some, None, map, length, option_map, if◌then◌else◌}
use Rattle.std.specs.List.{enumerate_from, filter_map, find, range_with_len}
use Rattle.ob_base.specs.Life.{is_alive}
use Rattle.ob_net.specs.declared.net.Device.{Device}
use Rattle.ob_sheet.specs.Order.{upto}
use Rattle.ob_sheet.specs.Positions.{position_of}
use Rattle.ob_cust.specs.Service.{served_seconds}
use Rattle.ob_json.specs.Supplies.{Supply, supply_text}
use Rattle.ob_json.specs.declared.plan.OutageInterval.{OutageInterval}
use Rattle.ob_json.specs.declared.supply.UnsuppliedSection.{UnsuppliedSection}
use Rattle.ob_json.specs.declared.supply.DeviceState.{DeviceState}
use Rattle.ob_time.specs.Calendar.{first_second_of, end_second_of}
use Rattle.ob_state.specs.State.{BookState}
use Rattle.ob_book.specs.Forecasts.{intervals_of, name_of_node}

-- the interval holds the second
abbrev pub holds : ℕ → OutageInterval → Bool
holds s i = nat_le i.since s && nat_lt s i.until

-- how many customers of a section are in service at a second
abbrev pub customers_at : BookState → ℕ → ℕ → ℕ
customers_at b v s = served_seconds b.customers v s (s + 1)

-- a section with its outage interval of the second; none where it has supply then
abbrev pub unsupplied : BookState → ℕ → ℕ → Option UnsuppliedSection
unsupplied b s v =
    option_map (λ i. record { section = name_of_node b v; since = i.since; until = i.until; entry = i.entry; cause = i.cause; customers = customers_at b v s })
    (find (holds s) (intervals_of b v))

-- a device at a second: the position that the kept entries up to then give it, and whether it is in service then
abbrev pub device_state : BookState → ℕ → (ℕ × Device) → DeviceState
device_state b s d = record { device = d.1.name; position = position_of (upto b.entries s) d.0 d.1; alive = is_alive d.1.life s }

-- the second is one of the period
abbrev pub is_in_period : BookState → ℕ → Bool
is_in_period b s = nat_le (first_second_of b.period) s && nat_lt s (end_second_of b.period)

-- the sections without supply, by rising number, and all devices
abbrev pub supply : BookState → ℕ → Supply
supply b s = record {
  second = s;
  sections = filter_map (unsupplied b s) (range_with_len 0 (length b.network.nodes));
  devices = map (device_state b s) (enumerate_from 0 b.network.devices);
}

-- the supply at a second of the period, as JSON; none outside it
abbrev pub supply_text_of : BookState → ℕ → Option (List ℕ)
supply_text_of b s = if is_in_period b s then Some (supply_text (supply b s)) else None

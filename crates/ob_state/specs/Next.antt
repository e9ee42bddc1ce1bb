-- What an accepted command changes.
use Rattle.std.specs.Prelude.{ℕ, ◌+◌, List, [], ◌∷◌, ◌++◌, Option, Some, None, is_none, set, unwrap_or, if◌then◌else◌}
use Rattle.ob_base.specs.Life.{life}
use Rattle.ob_net.specs.Network.{with_node, with_joined, with_life, node_of, device_of, section_of}
use Rattle.ob_sheet.specs.Sheet.{new_entry}
use Rattle.ob_sheet.specs.Revisions.{change_entry, corrected, withdrawn}
use Rattle.ob_cust.specs.Roll.{with_customer, with_service}
use Rattle.ob_time.specs.Calendar.{Calendar, day_on}
use Rattle.ob_index.specs.Marks.{with_mark, without_mark}
use Rattle.ob_command.specs.Devices.{device_between}
use Rattle.ob_command.specs.declared.command.Command.{Command}
use Rattle.ob_command.specs.declared.command.Command.TheVariants.{Cause, Bus, Section, Device, Life, Connect, Revise, Switch, Correct, Withdraw, Mark, Unmark}
use Rattle.ob_state.specs.State.{BookState, empty_book}
use Rattle.ob_state.specs.Refusals.{refusal}
use Rattle.jiff.specs.Words.{epoch_day}
use Rattle.jiff.specs.Types.{Date}

-- the day of the period that a date is
abbrev pub day_of_date : BookState → Date → ℕ
day_of_date b date = unwrap_or (day_on b.period (epoch_day date)) 0

-- the one change of a command
abbrev pub changed : BookState → Command → BookState
changed b (Cause code name) = record b { causes = set b.causes code (Some name) }
changed b (Bus name) = record b { network = with_node b.network (record { name = name; feeder = None }) }
changed b (Section name feeder) = record b { network = with_node b.network (record { name = name; feeder = Some feeder }) }
changed b (Device d) =
    record b { network = with_joined b.network (device_between d (unwrap_or (node_of b.network d.ends.a) 0) (unwrap_or (node_of b.network d.ends.b) 0)) }
changed b (Life device s) = record b { network = with_life b.network (unwrap_or (device_of b.network device) 0) (life s.since s.until) }
changed b (Connect customer section s) =
    record b { customers = with_customer (record { «no» = customer; section = unwrap_or (section_of b.network section) 0; since = s.since; until = s.until }) b.customers }
changed b (Revise customer s) = record b { customers = with_service customer s.since s.until b.customers }
changed b (Switch device o) =
    record b { entries = b.entries ++ new_entry b.entries (unwrap_or (device_of b.network device) 0) o.act o.second o.cause o.crew ∷ [] }
changed b (Correct entry revision o) = record b { entries = change_entry entry (corrected o.act o.second o.cause o.crew) b.entries }
changed b (Withdraw entry revision) = record b { entries = change_entry entry withdrawn b.entries }
changed b (Mark date engineer) = record b { marks = with_mark (day_of_date b date) engineer b.marks }
changed b (Unmark date engineer) = record b { marks = without_mark (day_of_date b date) b.marks }

-- the state after an accepted command
abbrev pub next : BookState → Command → BookState
next b command = record (changed b command) { accepted = b.accepted + 1 }

-- the state after commands, each of which is accepted in its turn; None where one isn't
abbrev pub next_all : BookState → List Command → Option BookState
next_all b [] = Some b
next_all b (command ∷ commands) = if is_none (refusal b command) then next_all (next b command) commands else None

-- the state of a new book after commands
abbrev pub after : Calendar → List Command → Option BookState
after period commands = next_all (empty_book period) commands

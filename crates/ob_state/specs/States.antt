-- What each state that a book reaches keeps, and what contracts see of a book.
use Rattle.std.specs.Prelude.{◌≡◌, ℕ, ◌<◌, ◌≤◌, List, Option, IsSome, length}
use Rattle.std.specs.List.{All}
use Rattle.ob_net.specs.Network.{Network, IsNetwork, home_feeder}
use Rattle.ob_sheet.specs.declared.Entry.{Entry}
use Rattle.ob_sheet.specs.Sheet.{AreNumbered, NameDevices}
use Rattle.ob_cust.specs.declared.Customer.{Customer}
use Rattle.ob_cust.specs.Roll.{IsRoll}
use Rattle.ob_sweep.specs.Timeline.{AreRuns}
use Rattle.ob_sweep.specs.declared.Run.{Run}
use Rattle.ob_time.specs.Calendar.{Calendar, IsCalendar, day_count, first_second_of, end_second_of}
use Rattle.ob_state.specs.State.{BookState}

-- the state of a book, for how many commands it has room without memory, at least, and how often its network was searched
pub record BookValue : Type 0 where
  pub state : BookState
  pub room : ℕ
  pub searches : ℕ

-- a state of these parts
abbrev pub book_state : Calendar → Network → List (Option (List ℕ)) → List Customer → List Entry → List (Option (List ℕ)) → ℕ → BookState
book_state period network causes customers entries marks accepted =
    record { period = period; network = network; causes = causes; customers = customers; entries = entries; marks = marks; accepted = accepted }

-- customers are of sections; entries are of devices, lie in the period, have causes that amounts are kept for, and aren't too
-- many; there is a place for each cause and each day; not too many commands were accepted
pub record IsBookState (b : BookState) : Type 0 where
  pub sections : All (λ c. IsSome (home_feeder b.network c.section)) b.customers
  pub devices : NameDevices (length b.network.devices) b.entries
  pub between : All (λ e. (first_second_of b.period ≤ e.second) × (e.second < end_second_of b.period)) b.entries
  pub entry_causes : All (λ e. e.cause < 64) b.entries
  pub few_entries : length b.entries ≤ 50_000
  pub causes : length b.causes ≡ 64
  pub marks : length b.marks ≡ day_count b.period
  pub few : b.accepted ≤ 1_000_000

-- what each state keeps to: each of its parts to its own rules, and the parts to one another
pub record IsSoundState (b : BookState) : Type 0 where
  pub period : IsCalendar b.period
  pub network : IsNetwork b.network
  pub roll : IsRoll b.customers
  pub numbered : AreNumbered b.entries
  pub state : IsBookState b

-- the lists are the runs of the state's sections over its period
abbrev pub AreRunsOf : BookState → List (List Run) → Type 0
AreRunsOf b lists = AreRuns b.network b.entries (first_second_of b.period) (end_second_of b.period) lists

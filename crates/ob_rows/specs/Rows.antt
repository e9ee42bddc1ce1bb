-- Interruption rows: each interruption once for all customers of a section who have equal service.
use Rattle.std.specs.Prelude.{ℕ, ◌*◌, Bool, List, [], Option, map, length}
use Rattle.std.specs.List.{filter, flat_map, sum_by, range_with_len}
use Rattle.std.specs.Option.{option_map_or, option_and_then}
use Rattle.ob_base.specs.declared.interval.Interval.{Interval}
use Rattle.ob_net.specs.Network.{home_feeder}
use Rattle.ob_cust.specs.declared.Customer.{Customer}
use Rattle.ob_sweep.specs.Cutters.{cutter_at}
use Rattle.ob_sweep.specs.Runs.{cause_at, history, start_of}
use Rattle.ob_time.specs.Calendar.{first_second_of}
use Rattle.ob_index.specs.Interruptions.{interruptions, is_marked, duration}
use Rattle.ob_state.specs.State.{BookState}
use Rattle.ob_rows.specs.Services.{Service, customers_with, services_of}
use Rattle.ob_rows.specs.declared.row.InterruptionRow.{InterruptionRow}

-- a customer of the section with the service; no interruption asks for its number
abbrev pub customer_with : ℕ → Service → Customer
customer_with section s = record { «no» = 0; section = section; since = s.0; until = s.1 }

-- the entry that cut off the outage interval of the section that holds the second; none where no entry did
abbrev pub entry_at : BookState → ℕ → ℕ → Option ℕ
entry_at b v s = option_and_then (cutter_at b.network b.entries v) (start_of (history b.network b.entries v) (first_second_of b.period) s)

-- the cause that this entry has now; 0, unassigned, where there is none
abbrev pub posted_cause : BookState → ℕ → ℕ → ℕ
posted_cause b v s = cause_at b.network b.entries (first_second_of b.period) v s

-- the row of an interruption of the customers with a service of a section of this home feeder
abbrev pub row_of : BookState → ℕ → ℕ → Service → Interval → InterruptionRow
row_of b v feeder s i = record {
  section = v;
  feeder = feeder;
  customers = customers_with b.customers v s;
  service_since = s.0;
  service_until = s.1;
  since = i.since;
  until = i.until;
  cause = posted_cause b v i.since;
  entry = entry_at b v i.since;
  marked = is_marked b.period b.marks i;
}

-- the rows of the customers with one service, rising
abbrev pub rows_of_service : BookState → ℕ → ℕ → Service → List InterruptionRow
rows_of_service b v feeder s = map (row_of b v feeder s) (interruptions b.network b.entries b.period (customer_with v s))

-- the rows of a node's customers, service by service; none where it is no section
abbrev pub rows_of_node : BookState → ℕ → List InterruptionRow
rows_of_node b v = option_map_or (λ feeder. flat_map (rows_of_service b v feeder) (services_of v b.customers)) (home_feeder b.network v) []

-- all rows: by section, by service, and then rising
abbrev pub interruption_rows : BookState → List InterruptionRow
interruption_rows b = flat_map (rows_of_node b) (range_with_len 0 (length b.network.nodes))

-- a row's interruption
abbrev pub interval_of : InterruptionRow → Interval
interval_of r = record { since = r.since; until = r.until }

-- the customer-seconds of a row
abbrev pub row_seconds : InterruptionRow → ℕ
row_seconds r = r.customers * duration (interval_of r)

-- the customer-seconds of the rows that pass a test
abbrev pub seconds_of_rows : (InterruptionRow → Bool) → List InterruptionRow → ℕ
seconds_of_rows test rows = sum_by row_seconds (filter test rows)

-- the customers of the rows that pass a test, each as often as it has such a row
abbrev pub customers_of_rows : (InterruptionRow → Bool) → List InterruptionRow → ℕ
customers_of_rows test rows = sum_by (λ r. r.customers) (filter test rows)

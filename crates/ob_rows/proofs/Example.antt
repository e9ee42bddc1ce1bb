-- Interruption rows, by their definition: a section S1 behind one breaker, from second 0 up to 5; the breaker was opened at 1 and closed
-- at 3, and its life ends at 4. Two customers from 2 on, and one up to 1. A section S2 that no device joins, with nobody on it.
use Rattle.std.proofs.Common.{◌≡◌, ℕ, false, true, [], ◌∷◌, refl, Option, Some, None, pos}
use Rattle.std.specs.Prelude.{codes}
use Rattle.ob_net.specs.Walk.{is_supplied, is_connected}
use Rattle.ob_base.specs.declared.Pos.{Pos}
use Rattle.ob_base.specs.declared.Pos.TheVariants.{Opened, Closed}
use Rattle.ob_sheet.specs.declared.Entry.{Entry}
use Rattle.ob_cust.specs.declared.Customer.{Customer}
use Rattle.ob_time.specs.Calendar.{calendar}
use Rattle.ob_state.specs.State.{BookState, unassigned_alone}
use Rattle.ob_rows.specs.Rows.{interruption_rows}
use Rattle.ob_rows.specs.Services.{services_of}
use Rattle.ob_rows.specs.declared.row.InterruptionRow.{InterruptionRow}

abbrev customer : ℕ → ℕ → ℕ → Option ℕ → Customer
customer number section since until = record { «no» = number; section = section; since = since; until = until }

-- a service without end comes before those of the same beginning that have one
services : services_of 4 (customer 1 4 10 (Some 20) ∷ customer 2 4 10 None ∷ customer 3 5 0 None ∷ customer 4 4 10 (Some 20) ∷ []) ≡ (10, None) ∷ (10, Some 20) ∷ []
services = refl

abbrev entry : ℕ → Pos → ℕ → Entry
entry number position s = record { «no» = number; rev = 1; device = 0; pos = position; second = s; cause = 3; crew = codes "K1"; kept = true }

abbrev book : BookState
book = record {
  period = calendar (pos 0) (0 ∷ 5 ∷ []) (codes "UTC0");
  network = record {
    nodes =
        record { name = codes "GRID"; feeder = None }
        ∷ record { name = codes "S1"; feeder = Some 1 }
        ∷ record { name = codes "S2"; feeder = Some 2 }
        ∷ [];
    devices = record { name = codes "B1"; a = 0; b = 1; normal = Closed; life = record { since = 0; until = Some 4 } } ∷ [];
  };
  causes = unassigned_alone;
  customers = customer 1 1 2 None ∷ customer 2 1 2 None ∷ customer 3 1 0 (Some 1) ∷ [];
  entries = entry 1 Opened 1 ∷ entry 2 Closed 3 ∷ [];
  marks = None ∷ [];
  accepted = 8;
}

abbrev row : ℕ → ℕ → ℕ → Option ℕ → InterruptionRow
row since until cause entry = record {
  section = 1;
  feeder = 1;
  customers = 2;
  service_since = 2;
  service_until = None;
  since = since;
  until = until;
  cause = cause;
  entry = entry;
  marked = false;
}

-- the first interruption begins with the service, and yet has the entry that opened the breaker; no entry began the second one
rows : interruption_rows book ≡ row 2 3 3 (Some 1) ∷ row 4 5 0 None ∷ []
unfolding is_supplied is_connected
rows = refl

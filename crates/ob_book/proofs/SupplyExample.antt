-- The supply at a second, by its definition: a section S1 behind one breaker, from second 0 up to 5, with one customer from 2 on; the
-- breaker was opened at 1 and closed at 3, and its life ends at 4. A section S2 that no device joins.
use Rattle.std.proofs.Common.{◌≡◌, ℕ, Bool, true, false, List, [], ◌∷◌, refl, Option, Some, None, pos}
use Rattle.std.specs.Prelude.{codes}
use Rattle.ob_net.specs.Walk.{is_supplied, is_connected}
use Rattle.ob_base.specs.declared.Pos.{Pos}
use Rattle.ob_base.specs.declared.Pos.TheVariants.{Opened, Closed}
use Rattle.ob_sheet.specs.declared.Entry.{Entry}
use Rattle.ob_time.specs.Calendar.{calendar}
use Rattle.ob_json.specs.Supplies.{Supply}
use Rattle.ob_json.specs.declared.supply.UnsuppliedSection.{UnsuppliedSection}
use Rattle.ob_state.specs.State.{BookState, unassigned_alone}
use Rattle.ob_book.specs.Supplies.{supply, supply_text_of}

abbrev entry : ℕ → Pos → ℕ → Entry
entry number position s = record { «no» = number; rev = 1; device = 0; pos = position; second = s; cause = 3; crew = codes "K1"; kept = true }

abbrev book : BookState
book = record {
  period = calendar (pos 0) (0 ∷ 5 ∷ []) (codes "UTC0");
  network = record {
    nodes =
        record { name = codes "GRID"; feeder = None }
        ∷ record { name = codes "S1"; feeder = Some 1 }
        ∷ record { name = codes "S2"; feeder = Some 2 }
        ∷ [];
    devices = record { name = codes "B1"; a = 0; b = 1; normal = Closed; life = record { since = 0; until = Some 4 } } ∷ [];
  };
  causes = unassigned_alone;
  customers = record { no = 1; section = 1; since = 2; until = None } ∷ [];
  entries = entry 1 Opened 1 ∷ entry 2 Closed 3 ∷ [];
  marks = None ∷ [];
  accepted = 6;
}

abbrev out : List ℕ → ℕ → ℕ → Option ℕ → ℕ → ℕ → UnsuppliedSection
out name since until entry cause customers = record { section = name; since = since; until = until; entry = entry; cause = cause; customers = customers }

abbrev breaker : ℕ → List UnsuppliedSection → Pos → Bool → Supply
breaker s sections position alive = record { second = s; sections = sections; devices = record { device = codes "B1"; position = position; alive = alive } ∷ [] }

abbrev apart : UnsuppliedSection
apart = out (codes "S2") 0 5 None 0 0

before : supply book 0 ≡ breaker 0 (apart ∷ []) Closed true
unfolding is_supplied is_connected
before = refl

-- at the opening, before the customer joins
opened : supply book 1 ≡ breaker 1 (out (codes "S1") 1 3 (Some 1) 3 0 ∷ apart ∷ []) Opened true
unfolding is_supplied is_connected
opened = refl

-- in the last second without supply
still_open : supply book 2 ≡ breaker 2 (out (codes "S1") 1 3 (Some 1) 3 1 ∷ apart ∷ []) Opened true
unfolding is_supplied is_connected
still_open = refl

closed : supply book 3 ≡ breaker 3 (apart ∷ []) Closed true
unfolding is_supplied is_connected
closed = refl

-- once the breaker is out of service it keeps its position, and no entry cut the section off
gone : supply book 4 ≡ breaker 4 (out (codes "S1") 4 5 None 0 1 ∷ apart ∷ []) Closed false
unfolding is_supplied is_connected
gone = refl

-- the period is over
over : supply_text_of book 5 ≡ None
over = refl

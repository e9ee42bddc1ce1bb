-- What plans show, by their definition: a section S1 behind one breaker, from second 0 up to 5, with no customer; the breaker was
-- opened at 1 and closed at 3.
use Rattle.std.proofs.Common.{◌≡◌, ℕ, List, [], ◌∷◌, refl, Option, Some, None, codes, pos, true}
use Rattle.ob_net.specs.Walk.{is_supplied, is_connected}
use Rattle.ob_base.specs.declared.Pos.TheVariants.{Opened, Closed}
use Rattle.ob_base.specs.declared.Pos.{Pos}
use Rattle.ob_sheet.specs.declared.Entry.{Entry}
use Rattle.ob_time.specs.Calendar.{calendar}
use Rattle.ob_command.specs.Commands.{operation_of}
use Rattle.ob_command.specs.declared.command.Command.{Command}
use Rattle.ob_command.specs.declared.command.Command.TheVariants.{Section, Switch, Correct, Withdraw}
use Rattle.ob_json.specs.Plans.{SectionOutages}
use Rattle.ob_json.specs.declared.plan.OutageInterval.{OutageInterval}
use Rattle.ob_state.specs.State.{BookState, unassigned_alone}
use Rattle.ob_state.specs.Next.{next}
use Rattle.ob_book.specs.Forecasts.{forecast}

abbrev entry : ℕ → Pos → ℕ → Entry
entry number position s = record { «no» = number; rev = 1; device = 0; pos = position; second = s; cause = 3; crew = codes "K1"; kept = true }

abbrev book : BookState
book = record {
  period = calendar (pos 0) (0 ∷ 5 ∷ []) (codes "UTC0");
  network = record {
    nodes = record { name = codes "GRID"; feeder = None } ∷ record { name = codes "S1"; feeder = Some 1 } ∷ [];
    devices = record { name = codes "B1"; a = 0; b = 1; normal = Closed; life = record { since = 0; until = None } } ∷ [];
  };
  causes = unassigned_alone;
  customers = [];
  entries = entry 1 Opened 1 ∷ entry 2 Closed 3 ∷ [];
  marks = None ∷ [];
  accepted = 5;
}

-- the sections whose outage intervals a command changes
abbrev changed : Command → List SectionOutages
changed command = (forecast book (next book command)).sections

abbrev outage : ℕ → ℕ → Option ℕ → ℕ → OutageInterval
outage since until entry cause = record { since = since; until = until; entry = entry; cause = cause }

abbrev only : List OutageInterval → List OutageInterval → List SectionOutages
only before after = record { section = codes "S1"; before = before; after = after } ∷ []

-- a second opening
opened : changed (Switch (codes "B1") (operation_of Opened 4 2 (codes "K1")))
    ≡ only (outage 1 3 (Some 1) 3 ∷ []) (outage 1 3 (Some 1) 3 ∷ outage 4 5 (Some 3) 2 ∷ [])
unfolding is_supplied is_connected
opened = refl

-- an opening while it is open
opened_again : changed (Switch (codes "B1") (operation_of Opened 2 2 (codes "K1"))) ≡ []
unfolding is_supplied is_connected
opened_again = refl

-- the opening withdrawn
withdrawn : changed (Withdraw 1 1) ≡ only (outage 1 3 (Some 1) 3 ∷ []) []
unfolding is_supplied is_connected
withdrawn = refl

-- its cause corrected, and nothing else
other_cause : changed (Correct 1 1 (operation_of Opened 1 2 (codes "K1")))
    ≡ only (outage 1 3 (Some 1) 3 ∷ []) (outage 1 3 (Some 1) 2 ∷ [])
unfolding is_supplied is_connected
other_cause = refl

-- its crew corrected
other_crew : changed (Correct 1 1 (operation_of Opened 1 3 (codes "K2"))) ≡ []
unfolding is_supplied is_connected
other_crew = refl

-- a new section, which no device joins: none before, and the whole period after it
joined : changed (Section (codes "S2") 1) ≡ record { section = codes "S2"; before = []; after = outage 0 5 None 0 ∷ [] } ∷ []
unfolding is_supplied is_connected
joined = refl

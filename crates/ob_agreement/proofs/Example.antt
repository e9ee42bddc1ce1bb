-- One outage, to `total` and to a book: a section S1 behind one breaker B1, from second 0 up to 5. B1 is opened at 1 and closed at 4.
-- Customer 1 has service from 0 on, and is without supply in the seconds 1, 2 and 3; customer 2 from 2 on, in 2 and 3.
use Rattle.std.proofs.Common.{◌≡◌, ◌∙◌, ℕ, ◌<◌, refl, sym, inl, inr, List, [], ◌∷◌, Some, None, Ok, Err, codes, pos, arith, length}
use Rattle.ob_base.specs.Fields.{unix_second_in}
use Rattle.ob_base.specs.declared.Pos.TheVariants.{Opened, Closed}
use Rattle.ob_base.specs.declared.stop.Refusal.TheVariants.{BadField}
use Rattle.ob_csv.specs.Rows.{Fields}
use Rattle.ob_net.specs.Walk.{is_supplied, is_connected}
use Rattle.ob_time.specs.Calendar.{Calendar, calendar}
use Rattle.ob_command.specs.Commands.{operation_of, service_between}
use Rattle.ob_command.specs.Fields.{IsRow}
use Rattle.ob_command.specs.Spellings.{Gives}
use Rattle.ob_time.specs.Moment.{IsSecondText}
use Rattle.ob_command.specs.Ranges.{end_names}
use Rattle.ob_command.specs.declared.command.Command.{Command}
use Rattle.ob_command.specs.declared.command.Command.TheVariants.{Cause, Section, Device, Connect, Switch}
use Rattle.ob_book.specs.Acts.{Referenced, acts, start}
use Rattle.ob_book.specs.Views.{without_supply_of_book}
use Rattle.ob_total.specs.Commands.{command_of}
use Rattle.ob_total.specs.Totals.{total_from, total_of_body}
use Rattle.ob_total.specs.declared.command.Command.TheVariants as counted
use Rattle.ob_agreement.specs.Counts.{AreAccepted, AreReadIn, IsSpanOf}

abbrev period : Calendar
period = calendar (pos 0) (0 ∷ 5 ∷ []) (codes "UTC0")

abbrev span : Fields
span = codes "span" ∷ codes "A1" ∷ codes "0" ∷ codes "5" ∷ [] ∷ [] ∷ [] ∷ [] ∷ []

abbrev opened : Fields
opened = codes "switch" ∷ codes "E1" ∷ codes "B1" ∷ codes "open" ∷ codes "1" ∷ codes "3" ∷ codes "K1" ∷ [] ∷ []

abbrev rows : List Fields
rows =
    (codes "cause" ∷ codes "A2" ∷ codes "3" ∷ codes "STORM" ∷ [] ∷ [] ∷ [] ∷ [] ∷ [])
    ∷ (codes "section" ∷ codes "A3" ∷ codes "S1" ∷ codes "1" ∷ [] ∷ [] ∷ [] ∷ [] ∷ [])
    ∷ (codes "device" ∷ codes "A4" ∷ codes "B1" ∷ codes "GRID" ∷ codes "S1" ∷ codes "closed" ∷ [] ∷ [] ∷ [])
    ∷ (codes "connect" ∷ codes "C1" ∷ codes "1" ∷ codes "S1" ∷ codes "0" ∷ [] ∷ [] ∷ [] ∷ [])
    ∷ (codes "connect" ∷ codes "C2" ∷ codes "2" ∷ codes "S1" ∷ codes "2" ∷ [] ∷ [] ∷ [] ∷ [])
    ∷ opened
    ∷ (codes "switch" ∷ codes "E2" ∷ codes "B1" ∷ codes "close" ∷ codes "4" ∷ codes "3" ∷ codes "K1" ∷ [] ∷ [])
    ∷ []

abbrev breaker : Command
breaker = Device (record { name = codes "B1"; ends = end_names (codes "GRID") (codes "S1"); normal = Closed; life = service_between 0 None })

abbrev list : List Referenced
list =
    record { reference = codes "A2"; command = Cause 3 (codes "STORM") }
    ∷ record { reference = codes "A3"; command = Section (codes "S1") 1 }
    ∷ record { reference = codes "A4"; command = breaker }
    ∷ record { reference = codes "C1"; command = Connect 1 (codes "S1") (service_between 0 None) }
    ∷ record { reference = codes "C2"; command = Connect 2 (codes "S1") (service_between 2 None) }
    ∷ record { reference = codes "E1"; command = Switch (codes "B1") (operation_of Opened 1 3 (codes "K1")) }
    ∷ record { reference = codes "E2"; command = Switch (codes "B1") (operation_of Closed 4 3 (codes "K1")) }
    ∷ []

span_is : IsSpanOf period span
span_is = refl

-- a short text names the second of its digits, and an empty one none
second_of : (text : List ℕ) (v : ℕ) → length text < 19 → unix_second_in text ≡ Some v → Gives IsSecondText text (Some v)
second_of text v short is s = (λ e. inl (is ∙ e), λ h. elim h [ inl unix ↦ sym is ∙ unix | inr civil ↦ absurd (omega (arith, civil.long)) ])

no_second : Gives IsSecondText [] None
no_second s = (λ e. absurd (cc), λ h. elim h [ inl unix ↦ absurd (cc) | inr civil ↦ absurd (omega (arith, civil.long)) ])

-- the first switching, to both
row_to_book : IsRow opened (Ok (codes "E1", Switch (codes "B1") (operation_of Opened 1 3 (codes "K1"))))
row_to_book = (Ok (Switch (codes "B1") (operation_of Opened 1 3 (codes "K1"))), (Some 1, second_of (codes "1") 1 (omega arith) refl, refl), refl)

row_to_total : command_of opened ≡ Ok (counted.Switch (codes "B1") Opened 1 3 (codes "K1"))
row_to_total = refl

-- the whole, to both: five customer-seconds
read : AreReadIn rows list
read = (
  (Ok (Cause 3 (codes "STORM")), refl, refl),
  (
    (Ok (Section (codes "S1") 1), refl, refl),
    (
      (Ok breaker, (None, None, no_second, no_second, refl), refl),
      (
        (Ok (Connect 1 (codes "S1") (service_between 0 None)), (Some 0, None, second_of (codes "0") 0 (omega arith) refl, no_second, refl), refl),
        (
          (Ok (Connect 2 (codes "S1") (service_between 2 None)), (Some 2, None, second_of (codes "2") 2 (omega arith) refl, no_second, refl), refl),
          (
            row_to_book,
            (
              (Ok (Switch (codes "B1") (operation_of Closed 4 3 (codes "K1"))), (Some 4, second_of (codes "4") 4 (omega arith) refl, refl), refl),
              tt,
            ),
          ),
        ),
      ),
    ),
  ),
)

accepted : AreAccepted (start period) list
accepted = (refl, (refl, (refl, (refl, (refl, (refl, (refl, tt)))))))

total_counts : total_of_body (span ∷ rows) ≡ Ok 5
unfolding total_from is_supplied is_connected
total_counts = refl

book_has : without_supply_of_book (acts (start period) list).book ≡ 5
unfolding is_supplied is_connected
book_has = refl

-- what `total` doesn't take: a civil moment, and a kind that a book alone has
civil_moment : command_of (codes "switch" ∷ codes "E1" ∷ codes "B1" ∷ codes "open" ∷ codes "1970-01-01T00:00:01Z" ∷ codes "3" ∷ codes "K1" ∷ [] ∷ []) ≡ Err (BadField 5)
civil_moment = refl

withdrawal : command_of (codes "withdraw" ∷ codes "E3" ∷ codes "1" ∷ codes "1" ∷ [] ∷ [] ∷ [] ∷ [] ∷ []) ≡ Err (BadField 1)
withdrawal = refl

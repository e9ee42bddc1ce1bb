-- What `total` counts of a text, and what a book has after the same rows.
use Rattle.std.specs.Prelude.{◌≡◌, ◌<◌, ⊤, ℕ, true, List, [], ◌∷◌, length, Ok, IsOk}
use Rattle.std.specs.List.{All}
use Rattle.ob_csv.specs.Header.{is_header}
use Rattle.ob_csv.specs.Rows.{Fields, rows_of}
use Rattle.ob_time.specs.Calendar.{Calendar, first_second_of, end_second_of}
use Rattle.ob_command.specs.Fields.{IsRow}
use Rattle.ob_book.specs.Acts.{ActState, Referenced, act, acts, is_accepted, start}
use Rattle.ob_book.specs.Views.{without_supply_of_book}
use Rattle.ob_total.specs.Commands.{span_of}
use Rattle.ob_total.specs.Totals.{total_of}
use Rattle.ob_agreement.specs.Readings.{as_counted, HasUnixSeconds}

-- these are the commands, with their references, that a book reads in these rows
abbrev pub AreReadIn : List Fields → List Referenced → Type 0
AreReadIn [] [] = ⊤
AreReadIn [] (a ∷ list) = ⊥
AreReadIn (row ∷ rows) [] = ⊥
AreReadIn (row ∷ rows) (a ∷ list) = IsRow row (Ok (a.reference, a.command)) × AreReadIn rows list

-- each of them, at its turn, is accepted: none is refused, and none comes again under its reference
abbrev pub AreAccepted : ActState → List Referenced → Type 0
AreAccepted b [] = ⊤
AreAccepted b (a ∷ list) = (is_accepted b a ≡ true) × AreAccepted (act b a) list

-- the row is a span, from the first second of the period to its end
abbrev pub IsSpanOf : Calendar → Fields → Type 0
IsSpanOf period row = span_of row ≡ Ok (record { first = first_second_of period; end = end_second_of period })

-- a text of a header, of the period's span, and of rows whose commands a new book of the period accepts
pub record IsTextOf (text : List ℕ) (period : Calendar) (rows : List Fields) (list : List Referenced) : Type 0 where
  pub header : Fields
  pub span : Fields
  pub is_text : rows_of text ≡ header ∷ span ∷ rows
  pub is_span : IsSpanOf period span
  pub read : AreReadIn rows list
  pub accepted : AreAccepted (start period) list

-- what `total` counts of such a text is W of the book after it: the customer-seconds without supply
abbrev pub CountIsOfBook : Type 0
CountIsOfBook =
    (text : List ℕ) (period : Calendar) (rows : List Fields) (list : List Referenced) (n : ℕ)
    → IsTextOf text period rows list → total_of text ≡ Ok n → n ≡ without_supply_of_book (acts (start period) list).book

-- and `total` counts each such text whose header is that of rows, whose moments are in Unix seconds, whose commands are of
-- its own kinds, and which has at most 1,000,000 rows with its span
abbrev pub BookIsCounted : Type 0
BookIsCounted =
    (text : List ℕ) (period : Calendar) (rows : List Fields) (list : List Referenced) (is : IsTextOf text period rows list)
    → is_header is.header ≡ true → All HasUnixSeconds rows → All (λ a. IsOk (as_counted a.command)) list → length rows < 1_000_000
    → total_of text ≡ Ok (without_supply_of_book (acts (start period) list).book)

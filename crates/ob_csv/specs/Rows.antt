-- The rows of a CSV text, in the words of `csv`, whose machine takes one byte after the other.
use Rattle.std.specs.Bool.{MatchBool}
use Rattle.std.specs.Prelude.{ℕ, ◌≡◌, ◌+◌, Bool, List, [], ◌∷◌, length, Option, Some, None}
use Rattle.csv.specs.Reading.{default_config, records_from, strip_bom}
use Rattle.csv.specs.declared.parser.State.{State}
use Rattle.csv.specs.declared.parser.State.TheVariants as st

-- the fields of a row, each the list of its bytes
abbrev pub Fields : Type 0
Fields = List (List ℕ)

-- the rows that a text has from a state of `csv`'s machine on
unfoldable pub rows_from : State → List ℕ → List Fields
rows_from state text = records_from default_config (length text + 1) state text

-- The rows of a text, its header among them, as RFC 4180 has them. A row ends at LF, at CRLF or at a CR alone, outside
-- quotes; the last one may end where the text ends, also inside quotes. A comma ends a field. A field that begins with
-- a double quote goes to the next one that isn't doubled, with commas and line ends in it, and a doubled quote is one
-- quote of the field; a quote further on in a field is a byte like any other. Empty lines are no rows. Nothing is
-- trimmed: a line of one space is a row of one field. One UTF-8 mark (EF BB BF) at the start of the text is skipped.
abbrev pub rows_of : List ℕ → List Fields
rows_of text = rows_from st.StartRecord (strip_bom text)

-- the row is the first of these rows, and `rest` are those after it
abbrev pub IsFirst : List Fields → Option (List Fields) → Fields → Type 0
IsFirst rows None row = ⊥
IsFirst rows (Some rest) row = rows ≡ row ∷ rest

-- a read that starts before `rows` and ends before `after` took the first of them, or found that there is none;
-- where the text is not known, it may be any
abbrev pub TakesRow : Option (List Fields) → Option (List Fields) → Bool → Fields → Type 0
TakesRow None after found row = Unit {0}
TakesRow (Some rows) after found row = MatchBool found (IsFirst rows after row) (rows ≡ [])

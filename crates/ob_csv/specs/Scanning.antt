-- Where a text stands between two bytes.
use Rattle.std.specs.Prelude.{ℕ, ◌≡◌, ◌≤◌, ⊤, false, List, [], ◌∷◌, length, take, ◌==◌, ◌||◌, if◌then◌else◌}
use Rattle.csv.specs.Machine.{ends_at_end, field_after, fields_after, is_end, step}
use Rattle.csv.specs.Reading.{default_config, is_bom}
use Rattle.csv.specs.declared.parser.State.{State}
use Rattle.csv.specs.declared.parser.State.TheVariants as st
use Rattle.ob_csv.specs.Rows.{Fields}
use Rattle.ob_csv.specs.declared.whole.Place.{Place}
use Rattle.ob_csv.specs.declared.whole.Place.TheVariants as at

-- the length of the UTF-8 mark at the start of a text
abbrev pub mark_length : List ℕ → ℕ
mark_length [] = 0
mark_length (a ∷ []) = 0
mark_length (a ∷ b ∷ []) = 0
mark_length (a ∷ b ∷ c ∷ rest) = if is_bom a b c then 3 else 0

-- the place behind a byte that isn't a quote
abbrev pub behind_plain : ℕ → Place
behind_plain c = if c == 44 then at.FieldStart else if (c == 13) || (c == 10) then at.RowStart else at.Field

-- the place behind a byte that is the first of a field
abbrev pub behind_first : ℕ → Place
behind_first c = if c == 34 then at.Quoted else behind_plain c

-- the place behind one byte more
abbrev pub place_behind : Place → ℕ → Place
place_behind at.RowStart c = if (c == 13) || (c == 10) then at.RowStart else behind_first c
place_behind at.FieldStart c = behind_first c
place_behind at.Field c = behind_plain c
place_behind at.Quoted c = if c == 34 then at.Closed else at.Quoted
place_behind at.Closed c = if c == 34 then at.Quoted else behind_plain c

-- a place of a text, as `csv`'s machine has it
abbrev pub IsPlace : Place → State → Type 0
IsPlace at.RowStart st.StartRecord = ⊤
IsPlace at.RowStart st.AfterCr = ⊤
IsPlace at.FieldStart st.StartField = ⊤
IsPlace at.Field st.InField = ⊤
IsPlace at.Quoted st.InQuoted = ⊤
IsPlace at.Closed st.AfterQuote = ⊤
IsPlace place state = ⊥

-- the state of `csv`'s machine behind these bytes
abbrev pub state_behind : State → List ℕ → State
state_behind s [] = s
state_behind s (c ∷ rest) = state_behind (step default_config s c).0 rest

-- the rows that end in these bytes, the first with the fields and the bytes of the field that were there before
abbrev pub ended_rows : State → Fields → List ℕ → List ℕ → List Fields
ended_rows s fields field [] = []
ended_rows s fields field (c ∷ rest) =
    if is_end (step default_config s c).1 then fields_after (step default_config s c).1 fields field ∷ ended_rows (step default_config s c).0 [] [] rest
    else ended_rows (step default_config s c).0 (fields_after (step default_config s c).1 fields field) (field_after (step default_config s c).1 c field) rest

-- the rows that end in a text without a mark all end in its first bytes, and there is a place between two rows
pub record Ends (text : List ℕ) (end : ℕ) : Type 0 where
  pub within : end ≤ length text
  pub between : ends_at_end (state_behind st.StartRecord (take end text)) ≡ false
  pub same : ended_rows st.StartRecord [] [] (take end text) ≡ ended_rows st.StartRecord [] [] text

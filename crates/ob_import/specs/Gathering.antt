-- What a clause sees of a text that is gathered first.
use Rattle.std.specs.Prelude.{ℕ, ◌≤◌, Bool, true, false, List, [], ◌∷◌, length, Option, Some, None, if◌then◌else◌}
use Rattle.ob_csv.specs.Rows.{Fields, rows_of}
use Rattle.ob_csv.specs.WholeRows.{whole_rows}

-- no known byte is left
abbrev pub is_over : Option (List ℕ) → Bool
is_over None = true
is_over (Some []) = true
is_over (Some (byte ∷ bytes)) = false

-- where a text is known, it has at most so many bytes
abbrev pub IsWithin : Option (List ℕ) → ℕ → Type 0
IsWithin None limit = Unit {0}
IsWithin (Some bytes) limit = length bytes ≤ limit

-- the rows of what was gathered: all of a whole text, and of one that broke off its whole rows
abbrev pub gathered_rows : Bool → List ℕ → List Fields
gathered_rows whole bytes = if whole then rows_of bytes else whole_rows bytes

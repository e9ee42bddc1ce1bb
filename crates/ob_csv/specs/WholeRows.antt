-- The whole rows of a text that broke off.
use Rattle.std.specs.Prelude.{ℕ, ◌≡◌, ◌-◌, List, ◌++◌, length, take, codes}
use Rattle.ob_csv.specs.Rows.{Fields, rows_of}

-- all but the last
abbrev pub all_but_last : List Fields → List Fields
all_but_last rows = take (length rows - 1) rows

-- The whole rows of a text that broke off. The last row of a text is whole where the text goes on to its line end; else what
-- would have followed may belong to it. So one byte more, which ends no row, is put behind the text: it goes into the row that
-- isn't whole, or begins one, and this last row is left out.
abbrev pub whole_rows : List ℕ → List Fields
whole_rows text = all_but_last (rows_of (text ++ codes "."))

-- the rows of a text begin with the whole rows of each part that it begins with
abbrev pub WholeRowsStand : Type 0
WholeRowsStand = (text rest : List ℕ) → (later : List Fields) × (rows_of (text ++ rest) ≡ whole_rows text ++ later)

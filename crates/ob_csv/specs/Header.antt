-- The header of a text.
use Rattle.std.specs.Prelude.{ℕ, Bool, [], ◌∷◌, codes}
use Rattle.std.specs.Cmp.Lexicographic.{pointwise}
use Rattle.std.specs.Str.{bytes_eq}
use Rattle.ob_csv.specs.Rows.{Fields}

-- the fields of the header
abbrev pub header : Fields
header = codes "kind" ∷ codes "ref" ∷ codes "f1" ∷ codes "f2" ∷ codes "f3" ∷ codes "f4" ∷ codes "f5" ∷ codes "f6" ∷ []

-- how many there are
abbrev pub columns : ℕ
columns = 8

-- whether a row has just these fields, in this order
abbrev pub is_header : Fields → Bool
is_header row = pointwise bytes_eq row header

-- Commands in the order of the numbers that their rows have, whatever these are.
use Rattle.std.specs.Prelude.{◌≡◌, ℤ, ⊤, List, [], ◌∷◌, map, Option, Some, None}
use Rattle.std.specs.List.{AllByRecursion}
use Rattle.std.specs.List.Sorted.{IsPermutation}
use Rattle.sqlite.specs.declared.types.Value.{Value}
use Rattle.sqlite.specs.declared.types.Value.TheVariants.{Int, Text}
use Rattle.ob_book.specs.Acts.{Referenced}
use Rattle.ob_sql_rows.specs.Rows.{Columns}
use Rattle.ob_sql_rows.specs.declared.version.Version.{Version}
use Rattle.ob_sql_read.specs.Apart.{IsAbove}
use Rattle.ob_sql_read.specs.Versioned.{IsReferencedIn, body_in}

-- a command under its reference, with a number
abbrev pub Numbered : Type 0
Numbered = ℤ × Referenced

-- the row that a command has in a version, with this in the place of its number
abbrev pub row_with : Version → Value → Referenced → Columns
row_with version id a = id ∷ Text a.reference ∷ Text (body_in version a.command) ∷ []

abbrev pub row_under : Version → Numbered → Columns
row_under version p = row_with version (Int p.0) p.1

abbrev pub rows_under : Version → List Numbered → List Columns
rows_under version pairs = map (row_under version) pairs

-- each number is above the one before it, and the first above this one, where there is one
abbrev pub AreAbove : Option ℤ → List Numbered → Type 0
AreAbove last [] = ⊤
AreAbove last (p ∷ pairs) = IsAbove last p.0 × AreAbove (Some p.0) pairs

-- the numbers rise
abbrev pub AreInOrder : List Numbered → Type 0
AreInOrder pairs = AreAbove None pairs

-- in the order of their numbers, whatever these are, the rows are those that the commands have in a version
pub record AreRowsOf (version : Version) (list : List Referenced) (rows : List Columns) : Type 0 where
  pub pairs : List Numbered
  pub in_order : AreInOrder pairs
  pub commands : map (λ (p : Numbered). p.1) pairs ≡ list
  pub are : IsPermutation rows (rows_under version pairs)

-- in the order of their numbers, rows are those of one list of a version's commands alone
abbrev pub RowsHaveOneOrder : Version → Type 0
RowsHaveOneOrder version =
    (rows : List Columns) (xs ys : List Referenced) → AllByRecursion (IsReferencedIn version) xs
    → AllByRecursion (IsReferencedIn version) ys → AreRowsOf version xs rows → AreRowsOf version ys rows → xs ≡ ys

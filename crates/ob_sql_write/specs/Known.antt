-- What stands under a reference.
use Rattle.std.specs.Prelude.{◌≡◌, ◌≢◌, ◌⊎◌, ◌<◌, ◌^◌, ℕ, List, [], ◌∷◌}
use Rattle.ob_base.specs.declared.stop.Stop.{Stop}
use Rattle.ob_base.specs.declared.stop.Stop.TheVariants.{Fault}
use Rattle.ob_base.specs.declared.stop.Fault.TheVariants.{Store}
use Rattle.ob_sql_rows.specs.Rows.{Columns, command_row}
use Rattle.ob_sql_write.specs.declared.known.Known.{Known}
use Rattle.ob_sql_write.specs.declared.known.Known.TheVariants.{New, Same, Other}

-- the store failed
abbrev pub store_fault : Stop
store_fault = Fault Store

-- these are the rows of the commands with a reference: none, or one of this number, with this body or another one
abbrev pub IsUnder : List Columns → List ℕ → List ℕ → Known → Type 0
IsUnder rows reference body New = rows ≡ []
IsUnder rows reference body (Same n) = rows ≡ command_row n reference body ∷ []
IsUnder rows reference body (Other n) =
    (other : List ℕ) × (other ≢ body) × (rows ≡ command_row n reference other ∷ [])

-- these are the rows of the commands with a reference as the tables of a book have them: none, or one, of some body
abbrev pub AreOfOne : List Columns → List ℕ → Type 0
AreOfOne rows reference =
    (rows ≡ []) ⊎ ((n : ℕ) × (n < 2 ^ 32) × (body : List ℕ) × (rows ≡ command_row n reference body ∷ []))

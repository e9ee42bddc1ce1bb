-- The hidden numbers of the rows of amounts, as a query lists them, and how they rise.
use Rattle.std.specs.Prelude.{◌≡◌, ℕ, ℤ, pos, negsuc, ◌<ℤ◌, ⊤, false, List, [], ◌∷◌, ◌++◌, codes, Option, Some, None}
use Rattle.sqlite.specs.Order.{Row}
use Rattle.sqlite.specs.Tree.{rowid}
use Rattle.sqlite.specs.Term.{lit, col}
use Rattle.sqlite.specs.Query.{Query, inner, end}
use Rattle.sqlite.specs.declared.types.Value.TheVariants.{Int}
use Rattle.sqlite.specs.Command.{Command as SqlCommand}
use Rattle.sqlite.specs.Command.TheVariants.{Select}
use Rattle.sqlite.specs.Effect.{Database, Reads}
use Rattle.sqlite.specs.Held.{Held, state}
use Rattle.sqlite.specs.Given.{HasGiven}
use Rattle.sqlite_trees.specs.declared.store.Store.{Ghosts}
use Rattle.ob_sql_read.specs.Listing.{upward}
use Rattle.ob_sql_read.specs.declared.apart.NextNumber.{NextNumber}
use Rattle.ob_sql_read.specs.declared.apart.NextNumber.TheVariants.{Higher, Other, End}

-- the query of the numbers of the rows of amounts, from the lowest on
abbrev pub number_text : List ℕ
number_text = codes "SELECT rowid FROM posting ORDER BY rowid"

abbrev pub number_query : Query
number_query = record {
  from = inner 14 end;
  filter = [];
  group = None;
  project = col 1 0 ∷ [];
  distinct = false;
  collations = [];
  order = (col 1 0, upward) ∷ [];
  limit = lit (Int (negsuc 0));
  offset = lit (Int (pos 0));
}

abbrev pub number_command : SqlCommand
number_command = Select (record { lets = []; body = number_query }) (codes "rowid" ∷ [])

-- these rows are an answer of the query
abbrev pub ListsNumbers : Database → List Row → Type 0
ListsNumbers db answer = Reads number_command db [] answer

-- the number is above the last, where there is one
abbrev pub IsAbove : Option ℤ → ℤ → Type 0
IsAbove None n = ⊤
IsAbove (Some last) n = last <ℤ n

-- the number that stands next is above the last
abbrev pub IsNextAbove : Option ℤ → NextNumber → Type 0
IsNextAbove last (Higher n) = IsAbove last n
IsNextAbove last Other = ⊤
IsNextAbove last End = ⊤

-- what stands behind the rows that were given: one of this number, one whose number isn't above the last, or the end
abbrev pub NumberStands : {S : Type 0} (g : Ghosts S) → Option ℤ → NextNumber → Held S → List Row → Type 0
NumberStands g last (Higher n) new given =
    (row : Row) × HasGiven g number_text [] new (given ++ row ∷ []) × (rowid row ≡ Int n)
NumberStands g last Other new given =
    (row : Row) × (rest : List Row) × ListsNumbers (state g new).now (given ++ (row ∷ rest))
    × ((n : ℤ) → rowid row ≡ Int n → ¬ (IsAbove last n))
NumberStands g last End new given = ListsNumbers (state g new).now given

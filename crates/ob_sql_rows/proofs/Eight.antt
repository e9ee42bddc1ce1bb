-- Lists of eight, and of eight moved amounts.
use Rattle.std.proofs.Common.{◌≡◌, ℕ, pos, List, [], ◌∷◌, length, get_or, refl, arith}
use Rattle.sqlite.specs.Order.{Row}
use Rattle.sqlite.specs.declared.types.Value.TheVariants.{Int}
use Rattle.ob_sql_rows.specs.Rows.{number}
use Rattle.ob_sql_rows.specs.Block.{block_params}
use Rattle.ob_sql_rows.specs.declared.block.MovedAmount.{MovedAmount}

-- what holds of any eight holds of such a list
pub of_eight : {X : Type 0} (P : List X → Type 0) → ((a b c d e f g h : X) → P (a ∷ b ∷ c ∷ d ∷ e ∷ f ∷ g ∷ h ∷ [])) → (xs : List X) → length xs ≡ 8 → P xs
of_eight P of [] long = absurd (omega (arith, long))
of_eight P of (a ∷ []) long = absurd (omega (arith, long))
of_eight P of (a ∷ b ∷ []) long = absurd (omega (arith, long))
of_eight P of (a ∷ b ∷ c ∷ []) long = absurd (omega (arith, long))
of_eight P of (a ∷ b ∷ c ∷ d ∷ []) long = absurd (omega (arith, long))
of_eight P of (a ∷ b ∷ c ∷ d ∷ e ∷ []) long = absurd (omega (arith, long))
of_eight P of (a ∷ b ∷ c ∷ d ∷ e ∷ f ∷ []) long = absurd (omega (arith, long))
of_eight P of (a ∷ b ∷ c ∷ d ∷ e ∷ f ∷ g ∷ []) long = absurd (omega (arith, long))
of_eight P of (a ∷ b ∷ c ∷ d ∷ e ∷ f ∷ g ∷ h ∷ []) long = of a b c d e f g h
of_eight P of (a ∷ b ∷ c ∷ d ∷ e ∷ f ∷ g ∷ h ∷ more ∷ rest) long = absurd (omega (arith, long))

abbrev none : MovedAmount
none = record { dim = 0; key = 0; delta = pos 0 }

-- the columns of the row at a place, and what follows
abbrev then : List MovedAmount → ℕ → Row → Row
then amounts i rest =
    number (get_or amounts i none).dim ∷ number (get_or amounts i none).key ∷ Int (get_or amounts i none).delta ∷ rest

abbrev by_place : ℕ → List MovedAmount → Row
by_place id all = number id ∷ then all 0 (then all 1 (then all 2 (then all 3 (then all 4 (then all 5 (then all 6 (then all 7 [])))))))

pub eight_params : (id : ℕ) (amounts : List MovedAmount) → length amounts ≡ 8 → block_params id amounts ≡ by_place id amounts
eight_params id = of_eight (λ amounts. block_params id amounts ≡ by_place id amounts) (λ a b c d e f g h. refl)

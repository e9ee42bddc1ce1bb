-- The rows of all amounts.
use Rattle.std.specs.Prelude.{ℕ, List, ◌++◌, map}
use Rattle.ob_post.specs.Keys.{dim_number, keys}
use Rattle.ob_post.specs.declared.Dim.{Dim}
use Rattle.ob_post.specs.declared.Dim.TheVariants.{Cause, Feeder, Day}
use Rattle.ob_sql_rows.specs.Rows.{Columns, posting_row}

-- with this many days, each dimension with its keys
abbrev pub all_keys : ℕ → List (Dim × ℕ)
all_keys days =
    map (λ key. (Cause, key)) (keys days Cause)
    ++ (map (λ key. (Feeder, key)) (keys days Feeder) ++ map (λ key. (Day, key)) (keys days Day))

-- the row of the amount under a key of a dimension
abbrev pub amount_row : (Dim → ℕ → ℕ) → Dim × ℕ → Columns
amount_row amount k = posting_row (dim_number k.0) k.1 (amount k.0 k.1)

-- with this many days, the rows of all amounts
abbrev pub amount_rows : ℕ → (Dim → ℕ → ℕ) → List Columns
amount_rows days amount = map (amount_row amount) (all_keys days)

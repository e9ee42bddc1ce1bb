-- Rows of keys with amounts, one key after the other.
use Rattle.std.proofs.Common.{◌≡◌, sym, refl, ℕ, ◌+◌, ◌-◌, ◌≤◌, false, cond, List, [], ◌∷◌, ◌++◌, map, arith}
use Rattle.std.proofs.lemmas.List.{map-append}
use Rattle.std.specs.List.{filter, range_with_len}
use Rattle.std.proofs.lemmas.List.FromFn.{filter_of_map_range_with_len_more}
use Rattle.serde_json.specs.Data.{Data}
use Rattle.serde_json.specs.View.{items_of}
use Rattle.serde_json.specs.Written.{has_float, items_have_float}
use Rattle.ob_post.specs.Postings.{PostedAmounts, amount_of}
use Rattle.ob_post.specs.Keys.{keys}
use Rattle.ob_post.specs.declared.Dim.{Dim}
use Rattle.ob_post.specs.declared.Dim.TheVariants.{Cause, Feeder, Day}
use Rattle.ob_json.specs.Totals.{has_amount, row_data, rows_of, totals_data}

-- the rows of so many keys from the first on
abbrev pub rows_between : PostedAmounts → Dim → ℕ → ℕ → List (ℕ × ℕ)
rows_between p dim first count = rows_of (amount_of p dim) (range_with_len first count)

-- with the next key's amount, where there is one
with_next : (p : PostedAmounts) (dim : Dim) (first key : ℕ) → first ≤ key
    → rows_between p dim first (key + 1 - first) ≡ rows_between p dim first (key - first) ++ cond (has_amount (key, amount_of p dim key)) ((key, amount_of p dim key) ∷ []) []
with_next p dim first key from =
    let next : key + 1 - first ≡ key - first + 1 = omega arith in
    rw next (filter_of_map_range_with_len_more has_amount (λ k. (k, amount_of p dim k)) first (key - first) key (omega arith))

pub more_rows : (p : PostedAmounts) (dim : Dim) (first key : ℕ) (rows : List Data) → first ≤ key
    → rows ≡ map row_data (rows_between p dim first (key - first))
    → rows ++ map row_data (filter has_amount ((key, amount_of p dim key) ∷ [])) ≡ map row_data (rows_between p dim first (key + 1 - first))
more_rows p dim first key rows from before =
    rw (before, with_next p dim first key from) (sym (map-append row_data (rows_between p dim first (key - first)) (filter has_amount ((key, amount_of p dim key) ∷ []))))

-- no row is a float
rows_have_none : (rows : List (ℕ × ℕ)) → items_have_float (items_of (map row_data rows)) ≡ false
rows_have_none [] = refl
rows_have_none (row ∷ rows) = rows_have_none rows

pub totals_have_none : (amount : Dim → ℕ → ℕ) (days total : ℕ) → has_float (totals_data amount days total) ≡ false
totals_have_none amount days total =
    rw (rows_have_none (rows_of (amount Cause) (keys days Cause)), rows_have_none (rows_of (amount Day) (keys days Day)), rows_have_none (rows_of (amount Feeder) (keys days Feeder))) refl

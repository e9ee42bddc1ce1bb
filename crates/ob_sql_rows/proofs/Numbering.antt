-- Rows whose hidden numbers are 1, 2, 3 and so on: with one more, and with one written anew.
use Rattle.std.proofs.Common.{◌≡◌, ◌≢◌, ℕ, ◌+◌, ◌≤◌, ◌<◌, ◌^◌, ℤ, pos, ◌+ℤ◌, List, [], ◌∷◌, ◌++◌, map, length, fold, true, false, Less, Greater, inl, inr, refl, sym, ap, ap₂, subst, ◌∙◌, arith}
use Rattle.std.specs.List.{range_with_len}
use Rattle.std.specs.List.Sorted.{IsPermutation}
use Rattle.std.specs.Ordering.{is_eq, match_ordering}
use Rattle.std.proofs.lemmas.Bool.{or_from, cases_lt}
use Rattle.std.proofs.lemmas.Bool.Decides.{nat_tests}
use Rattle.std.proofs.lemmas.Cmp.{tied_itself}
use Rattle.std.proofs.lemmas.List.{length-map}
use Rattle.std.proofs.lemmas.List.Sorted.{length_permutation}
use Rattle.sqlite_value.proofs.OrderLemmas.{value_cmp_total, value_cmp-Int}
use Rattle.sqlite_value.specs.Order.{value_cmp}
use Rattle.sqlite_sql.specs.Ops.{fits_i64}
use Rattle.sqlite_rules.specs.Lists.{Has}
use Rattle.sqlite_rules.specs.Edit.{id_in, next_rowid, is_taken}
use Rattle.sqlite.specs.Order.{Row}
use Rattle.sqlite.specs.declared.types.Value.{Value}
use Rattle.sqlite.specs.declared.types.Value.TheVariants.{Int}
use Rattle.sqlite.specs.Tree.{Trees, rowid, put_row, has_rowid, without_rowid}
use Rattle.ob_sql_rows.specs.Rows.{Columns, tree_of, shown, number}
use Rattle.ob_sql_rows.specs.Rules.{IsNumbered, AreNumbered}
use Rattle.ob_sql_rows.specs.declared.table.Table.{Table}
use Rattle.ob_sql_rows.specs.declared.table.Table.TheVariants.{Moved, Posting}
use Rattle.ob_sql_rows.proofs.Trees.{OthersStay, stays}

-- the numbers go on from this one
abbrev pub IsNumberedFrom : ℕ → List Row → Type 0
IsNumberedFrom at rows = map rowid rows ≡ map number (range_with_len at (length rows))

same_first : (x y : Value) (xs ys : List Value) → ◌≡◌ {A = List Value} (x ∷ xs) (y ∷ ys) → x ≡ y
same_first x y xs ys e = cc

same_rest : (x y : Value) (xs ys : List Value) → ◌≡◌ {A = List Value} (x ∷ xs) (y ∷ ys) → xs ≡ ys
same_rest x y xs ys e = cc

first_number : (at : ℕ) (r : Row) (rows : List Row) → IsNumberedFrom at (r ∷ rows) → rowid r ≡ number at
first_number at r rows h = same_first (rowid r) (number at) (map rowid rows) (map number (range_with_len (at + 1) (length rows))) h

rest_numbered : (at : ℕ) (r : Row) (rows : List Row) → IsNumberedFrom at (r ∷ rows) → IsNumberedFrom (at + 1) rows
rest_numbered at r rows h = same_rest (rowid r) (number at) (map rowid rows) (map number (range_with_len (at + 1) (length rows))) h

below : (m n : ℕ) → m < n → value_cmp (number m) (number n) ≡ Less
below m n less = value_cmp-Int (pos m) (pos n) ∙ grind (arith, nat_tests)

above : (m n : ℕ) → n < m → value_cmp (number m) (number n) ≡ Greater
above m n less = value_cmp-Int (pos m) (pos n) ∙ grind (arith, nat_tests)

row_below : (r row : Row) (m n : ℕ) → rowid r ≡ number m → rowid row ≡ number n → m < n → value_cmp (rowid r) (rowid row) ≡ Less
row_below r row m n is too less = ap₂ value_cmp is too ∙ below m n less

row_above : (r row : Row) (m n : ℕ) → rowid r ≡ number m → rowid row ≡ number n → n < m → value_cmp (rowid r) (rowid row) ≡ Greater
row_above r row m n is too less = ap₂ value_cmp is too ∙ above m n less

-- ---- the next number

abbrev step_rowid : ℤ → Row → ℤ
step_rowid n r = id_in (rowid r) +ℤ pos 1

step_is : (at : ℕ) → pos at +ℤ pos 1 ≡ pos (at + 1)
step_is at = refl

next_from : (at : ℕ) (rows : List Row) → IsNumberedFrom at rows → fold step_rowid (pos at) rows ≡ pos (at + length rows)
next_from at [] h = ap pos (omega arith)
next_from at (r ∷ rows) h =
    let step : step_rowid (pos at) r ≡ pos (at + 1) = ap (λ v. id_in v +ℤ pos 1) (first_number at r rows h) ∙ step_is at in
    ap (λ n. fold step_rowid n rows) step ∙ next_from (at + 1) rows (rest_numbered at r rows h) ∙ ap pos (omega arith)

-- the next number is one more than there are rows
pub next_number : (rows : List Row) → IsNumbered rows → next_rowid rows ≡ pos (1 + length rows)
next_number rows h = next_from 1 rows h

-- no row has a number that is above theirs
none_above : (at k : ℕ) (rows : List Row) (row : Row) → IsNumberedFrom at rows → at + length rows ≤ k → rowid row ≡ number k → is_taken rows row ≡ false
none_above at k [] row h high is = refl
none_above at k (r ∷ rows) row h high is =
    or_from _ _ (ap is_eq (row_below r row at k (first_number at r rows h) is (omega (arith, high))))
    (none_above (at + 1) k rows row (rest_numbered at r rows h) (omega (arith, high)) is)

pub free_number : (rows : List Row) (row : Row) → IsNumbered rows → rowid row ≡ number (1 + length rows) → is_taken rows row ≡ false
free_number rows row h is = none_above 1 (1 + length rows) rows row h (omega arith) is

-- a row whose number is above theirs is put at the end
put_above : (at k : ℕ) (rows : List Row) (row : Row) → IsNumberedFrom at rows → at + length rows ≤ k → rowid row ≡ number k → put_row row rows ≡ rows ++ row ∷ []
put_above at k [] row h high is = refl
put_above at k (r ∷ rows) row h high is =
    ap (λ o. match_ordering o (r ∷ put_row row rows) (row ∷ rows) (row ∷ (r ∷ rows))) (row_below r row at k (first_number at r rows h) is (omega (arith, high)))
    ∙ ap (λ l. r ∷ l) (put_above (at + 1) k rows row (rest_numbered at r rows h) (omega (arith, high)) is)

pub put_last : (rows : List Row) (row : Row) → IsNumbered rows → rowid row ≡ number (1 + length rows) → put_row row rows ≡ rows ++ row ∷ []
put_last rows row h is = put_above 1 (1 + length rows) rows row h (omega arith) is

more_from : (at : ℕ) (rows : List Row) (row : Row) → IsNumberedFrom at rows → rowid row ≡ number (at + length rows) → IsNumberedFrom at (rows ++ row ∷ [])
more_from at [] row h is = ap (λ (v : Value). v ∷ []) (is ∙ ap number (omega arith))
more_from at (r ∷ rows) row h is =
    ap₂ ◌∷◌ (first_number at r rows h) (more_from (at + 1) rows row (rest_numbered at r rows h) (is ∙ ap number (omega arith)))

-- the numbers go on with a row that gets the next one
pub put_next : (rows : List Row) (row : Row) → IsNumbered rows → rowid row ≡ Int (next_rowid rows) → IsNumbered (put_row row rows)
put_next rows row h is =
    let last : rowid row ≡ number (1 + length rows) = is ∙ ap Int (next_number rows h) in
    subst IsNumbered (sym (put_last rows row h last)) (more_from 1 rows row h last)

-- ---- a row written anew

-- a row has a number among theirs
pub number_from : (at : ℕ) (rows : List Row) (r : Row) → IsNumberedFrom at rows → Has rows r → (k : ℕ) × (rowid r ≡ number k) × (at ≤ k) × (k < at + length rows)
number_from at [] r h there = absurd there
number_from at (x ∷ rows) r h (inl here) = (at, ap rowid here ∙ first_number at x rows h, omega arith, omega arith)
number_from at (x ∷ rows) r h (inr there) =
    let it = number_from (at + 1) rows r (rest_numbered at x rows h) there in
    (it.0, it.1, omega (arith, it.2), omega (arith, it.3))

other_number : (r : Row) (m k : ℕ) → rowid r ≡ number m → k < m → has_rowid (pos k) r ≡ false
other_number r m k is less = ap (λ v. is_eq (value_cmp v (number k))) is ∙ ap is_eq (above m k less)

-- all are left where the number is below theirs
all_left : (at k : ℕ) (rows : List Row) → IsNumberedFrom at rows → k < at → without_rowid (pos k) rows ≡ rows
all_left at k [] h low = refl
all_left at k (r ∷ rows) h low =
    let rest : without_rowid (pos k) rows ≡ rows = all_left (at + 1) k rows (rest_numbered at r rows h) (omega (arith, low)) in
    let other : has_rowid (pos k) r ≡ false = other_number r at k (first_number at r rows h) low in
    rw (other, rest)

put_first : (at k : ℕ) (rows : List Row) (row : Row) → IsNumberedFrom at rows → k < at → rowid row ≡ number k → put_row row rows ≡ row ∷ rows
put_first at k [] row h low is = refl
put_first at k (r ∷ rows) row h low is =
    ap (λ o. match_ordering o (r ∷ put_row row rows) (row ∷ rows) (row ∷ (r ∷ rows))) (row_above r row at k (first_number at r rows h) is low)

-- the numbers stay where a row is written anew under its own
anew_from : (at k : ℕ) (rows : List Row) (row : Row) → IsNumberedFrom at rows → at ≤ k → k < at + length rows → rowid row ≡ number k → IsNumberedFrom at (put_row row (without_rowid (pos k) rows))
anew_from at k [] row h low high is = absurd (omega (arith, low, high))
anew_from at k (r ∷ rows) row h low high is = elim (cases_lt at k) [
  | inl later ↦
      let other : has_rowid (pos k) r ≡ false =
      ap (λ v. is_eq (value_cmp v (number k))) (first_number at r rows h) ∙ ap is_eq (below at k later) in
      let left : without_rowid (pos k) (r ∷ rows) ≡ r ∷ without_rowid (pos k) rows = rw other refl in
      let put : put_row row (r ∷ without_rowid (pos k) rows) ≡ r ∷ put_row row (without_rowid (pos k) rows) =
      ap (λ o. match_ordering o (r ∷ put_row row (without_rowid (pos k) rows)) (row ∷ without_rowid (pos k) rows) (row ∷ (r ∷ without_rowid (pos k) rows)))
      (row_below r row at k (first_number at r rows h) is later) in
      let same : IsNumberedFrom at (r ∷ put_row row (without_rowid (pos k) rows)) =
      ap₂ ◌∷◌ (first_number at r rows h) (anew_from (at + 1) k rows row (rest_numbered at r rows h) (omega (arith, later)) (omega (arith, high)) is) in
      subst (IsNumberedFrom at) (sym (ap (put_row row) left ∙ put)) same
  | inr back ↦
      let here : at ≡ k = omega (arith, low, back) in
      let own : has_rowid (pos k) r ≡ true =
      ap (λ v. is_eq (value_cmp v (number k))) (first_number at r rows h ∙ ap number here) ∙ ap is_eq (tied_itself value_cmp_total (number k)) in
      let left : without_rowid (pos k) (r ∷ rows) ≡ rows = rw own (all_left (at + 1) k rows (rest_numbered at r rows h) (omega (arith, here))) in
      let put : put_row row (without_rowid (pos k) (r ∷ rows)) ≡ row ∷ rows =
      ap (put_row row) left ∙ put_first (at + 1) k rows row (rest_numbered at r rows h) (omega (arith, here)) is in
      let same : IsNumberedFrom at (row ∷ rows) = ap₂ ◌∷◌ (is ∙ ap number (sym here)) (rest_numbered at r rows h) in
      subst (IsNumberedFrom at) (sym put) same
]

pub anew_numbered : (rows : List Row) (r row : Row) (id : ℤ) → IsNumbered rows → Has rows r → rowid r ≡ Int id → rowid row ≡ Int id → IsNumbered (put_row row (without_rowid id rows))
anew_numbered rows r row id h there is too =
    let it = number_from 1 rows r h there in
    let same : id ≡ pos it.0 = ap id_in (sym is ∙ it.1) in
    subst (λ n. IsNumbered (put_row row (without_rowid n rows))) (sym same) (anew_from 1 it.0 rows row h it.2 it.3 (too ∙ ap Int same))

-- ---- the numbers of a table that has room

-- as many rows are stored as the table has
pub as_many : (table : Table) (rows : List Row) (ts : List Columns) → IsPermutation (map (shown table) rows) ts → length rows ≡ length ts
as_many table rows ts held = sym (length-map rows (shown table)) ∙ sym (length_permutation _ _ held)

pub room_fits : (n : ℕ) → n < 2 ^ 63 → fits_i64 (pos n) ≡ true
room_fits n small = grind (arith, nat_tests)

-- ---- of the two tables whose row numbers are hidden

-- a change of another table leaves them
pub numbered_beside : (table : Table) (old new : Trees) → OthersStay (tree_of table) new old → 12 ≢ tree_of table → 14 ≢ tree_of table → AreNumbered old → AreNumbered new
numbered_beside table old new others apart_moved apart_amounts are = record {
  moved = subst IsNumbered (sym (stays new old (tree_of table) Moved others apart_moved)) are.moved;
  amounts = subst IsNumbered (sym (stays new old (tree_of table) Posting others apart_amounts)) are.amounts;
}

pub numbered_moved : (old new : Trees) (row : Row) → OthersStay 12 new old → new 12 ≡ put_row row (old 12) → rowid row ≡ Int (next_rowid (old 12)) → AreNumbered old → AreNumbered new
numbered_moved old new row others put is are = record {
  moved = subst IsNumbered (sym put) (put_next (old 12) row are.moved is);
  amounts = subst IsNumbered (sym (stays new old 12 Posting others (λ e. omega (arith, e)))) are.amounts;
}

pub numbered_posting : (old new : Trees) (row : Row) → OthersStay 14 new old → new 14 ≡ put_row row (old 14) → rowid row ≡ Int (next_rowid (old 14)) → AreNumbered old → AreNumbered new
numbered_posting old new row others put is are = record {
  moved = subst IsNumbered (sym (stays new old 14 Moved others (λ e. omega (arith, e)))) are.moved;
  amounts = subst IsNumbered (sym put) (put_next (old 14) row are.amounts is);
}

pub numbered_anew : (old new : Trees) (r row : Row) (id : ℤ) → OthersStay 14 new old → new 14 ≡ put_row row (without_rowid id (old 14)) → Has (old 14) r → rowid r ≡ Int id → rowid row ≡ Int id → AreNumbered old → AreNumbered new
numbered_anew old new r row id others put there is too are = record {
  moved = subst IsNumbered (sym (stays new old 14 Moved others (λ e. omega (arith, e)))) are.moved;
  amounts = subst IsNumbered (sym put) (anew_numbered (old 14) r row id are.amounts there is too);
}

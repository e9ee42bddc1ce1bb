-- What the rows of one command are, and which list of moves they tell.
use Rattle.std.proofs.Common.{◌≡◌, ◌∙◌, sym, ap₂, refl, ℕ, suc, ◌<◌, pos, List, [], ◌∷◌, ◌++◌, ◌+◌, get_or, take, filter, length, inl, inr, arith, Less, Equal}
use Rattle.std.specs.List.{All, AllByRecursion}
use Rattle.std.specs.List.Sorted.{IsPermutation, IsStrictlySortedBy}
use Rattle.std.specs.Ordering.{nat_cmp, int_cmp}
use Rattle.std.proofs.lemmas.Bool.Decides.{nat_tests}
use Rattle.std.proofs.lemmas.List.{take_more, map_push}
use Rattle.std.proofs.lemmas.List.Elements.{All-map, recursion_from_All}
use Rattle.std.proofs.lemmas.List.Sorted.{All-permutation, IsPermutation-sym, IsPermutation-trans}
use Rattle.sqlite_value.specs.Keys.{rising}
use Rattle.sqlite_value.proofs.OrderLemmas.{value_cmp-Int}
use Rattle.sqlite_sql.proofs.QueryLemmas.{key_cmp_total}
use Rattle.sqlite.specs.Order.{Row}
use Rattle.ob_post.specs.declared.Moved.{Moved}
use Rattle.ob_post.specs.Keys.{dim_number}
use Rattle.ob_post.specs.Moved.{IsBefore, AreInOrder}
use Rattle.ob_post.proofs.Deltas.{tail_in_order}
use Rattle.ob_post.proofs.Keying.{same_dim}
use Rattle.ob_sql_rows.specs.Rows.{Columns, is_key}
use Rattle.ob_sql_write.specs.Stored.{HaveSmallKeys, IsMoveOf, row_of, rows_of, by_dimension_and_key, AreMovesIn}
use Rattle.ob_sql_write.proofs.Same.{same_when_sorted}

-- one row more
pub one_more : (id : ℕ) (rows : List Row) (moves : List Moved) (i : ℕ) (row : Row) (m : Moved) → i < length rows → row ≡ get_or rows i row → row ≡ row_of id m → take i rows ≡ rows_of id moves → take (i + 1) rows ≡ rows_of id (moves ++ m ∷ [])
one_more id rows moves i row m low here is before = take_more rows i row low ∙ ap₂ (λ l r. l ++ r ∷ []) before (sym here ∙ is) ∙ sym (map_push (row_of id) moves m)

-- ---- the order of the rows is that of the moves
same_pos : (m n : ℕ) → int_cmp (pos m) (pos n) ≡ nat_cmp m n
same_pos m n = grind (arith, nat_tests)

nat_less : (m n : ℕ) → m < n → nat_cmp m n ≡ Less
nat_less m n h = grind (arith, nat_tests)

nat_same : (n : ℕ) → nat_cmp n n ≡ Equal
nat_same n = grind (arith, nat_tests)

before_less : (id : ℕ) (l m : Moved) → IsBefore l m → by_dimension_and_key (row_of id l) (row_of id m) ≡ Less
before_less id l m (inl less) =
    rw (value_cmp-Int (pos (dim_number l.dim)) (pos (dim_number m.dim)), same_pos (dim_number l.dim) (dim_number m.dim), nat_less (dim_number l.dim) (dim_number m.dim) less)
before_less id l m (inr both) =
    rw (
      value_cmp-Int (pos (dim_number l.dim)) (pos (dim_number m.dim)),
      value_cmp-Int (pos l.key) (pos m.key),
      same_pos (dim_number l.dim) (dim_number m.dim),
      same_pos l.key m.key,
      both.0,
      nat_same (dim_number m.dim),
      nat_less l.key m.key both.1,
    )

all_less : (id : ℕ) (l : Moved) (ms : List Moved) → AllByRecursion (IsBefore l) ms → AllByRecursion (λ r. by_dimension_and_key (row_of id l) r ≡ Less) (rows_of id ms)
all_less id l [] all = tt
all_less id l (m ∷ ms) all = (before_less id l m all.0, all_less id l ms all.1)

rise : (id : ℕ) (ms : List Moved) → AreInOrder ms → IsStrictlySortedBy by_dimension_and_key (rows_of id ms)
unfolding IsStrictlySortedBy
rise id [] order = tt
rise id (m ∷ ms) order =
    (all_less id m ms (recursion_from_All (IsBefore m) ms (λ i d low. order 0 (suc i) d (omega arith) (omega (arith, low)))), rise id ms (tail_in_order m ms order))

-- ---- the rows tell the moves
same_move : (id : ℕ) (l m : Moved) → row_of id l ≡ row_of id m → l ≡ m
same_move id l m is =
    let numbers : dim_number l.dim ≡ dim_number m.dim = cc in
    let keys : l.key ≡ m.key = cc in
    let deltas : l.delta ≡ m.delta = cc in
    let both : ◌≡◌ {A = Moved} (record { dim = l.dim; key = l.key; delta = l.delta }) (record { dim = m.dim; key = m.key; delta = m.delta }) = rw (same_dim l.dim m.dim numbers, keys, deltas) in
    both

same_moves : (id : ℕ) (ls ms : List Moved) → rows_of id ls ≡ rows_of id ms → ls ≡ ms
same_moves id [] [] is = refl
same_moves id [] (m ∷ ms) is = absurd cc
same_moves id (l ∷ ls) [] is = absurd cc
same_moves id (l ∷ ls) (m ∷ ms) is =
    let first : row_of id l ≡ row_of id m = cc in
    let rest : rows_of id ls ≡ rows_of id ms = cc in
    ap₂ (λ x xs. x ∷ xs) (same_move id l m first) (same_moves id ls ms rest)

-- of a command's rows in order there is one list of moves in order
pub told_moves : (table : List Columns) (id : ℕ) (rows : List Row) (moves expected : List Moved) → AreMovesIn table id rows → rows ≡ rows_of id moves → AreInOrder expected
    → IsPermutation (filter (is_key id) table) (rows_of id expected) → moves ≡ expected
told_moves table id rows moves expected found told order same =
    let all : IsPermutation rows (rows_of id expected) = IsPermutation-trans _ _ _ (IsPermutation-sym _ _ found.same) same in
    same_moves id moves expected (sym told ∙ same_when_sorted by_dimension_and_key (key_cmp_total (rising 2 []) 1) rows (rows_of id expected) all found.sorted (rise id expected order))

-- each row of a command is that of an amount, where the tables' are
pub all_moves : (id : ℕ) (table : List Columns) (rows : List Row) (expected : List Moved) → AreMovesIn table id rows → IsPermutation (filter (is_key id) table) (rows_of id expected) → HaveSmallKeys expected → All (IsMoveOf id) rows
all_moves id table rows expected found same small =
    All-permutation (IsMoveOf id) (rows_of id expected) rows (IsPermutation-trans _ _ _ (IsPermutation-sym _ _ same) found.same)
    (All-map (IsMoveOf id) (row_of id) expected (λ i d low. (_, small i d low, refl)))

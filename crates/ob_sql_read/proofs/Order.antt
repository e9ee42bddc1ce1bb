-- The rows of what commands move rise strictly: by number, dimension and key.
use Rattle.std.proofs.Common.{◌≡◌, ◌∙◌, sym, ap, subst, refl, ℕ, suc, ◌+◌, ◌<◌, List, [], ◌∷◌, ◌++◌, map, get_or, ℤ, pos, inl, inr, arith, Ordering, Less, Equal}
use Rattle.std.specs.Prelude.{◌-ℤ◌}
use Rattle.std.specs.List.{All, AllByRecursion, range_with_len}
use Rattle.std.specs.List.Sorted.{IsStrictlySortedBy}
use Rattle.std.specs.Ordering.{nat_cmp, ordering_then}
use Rattle.std.proofs.lemmas.Bool.Decides.{nat_tests}
use Rattle.std.proofs.lemmas.List.Elements.{All-append, All-map, All-tail, recursion_from_All}
use Rattle.std.proofs.lemmas.List.FromFn.{get_or-map-range_with_len, length-map-range_with_len}
use Rattle.std.proofs.lemmas.List.Kept.{AllPairs-cons, AllPairs-filter}
use Rattle.ob_post.specs.declared.Dim.{Dim}
use Rattle.ob_post.specs.declared.Dim.TheVariants.{Cause, Feeder, Day}
use Rattle.ob_post.specs.declared.Moved.{Moved}
use Rattle.ob_post.specs.Keys.{dim_number, keys}
use Rattle.ob_post.specs.Moved.{IsBefore, AreInOrder, is_nonzero, changes_under, moves_by}
use Rattle.ob_post.proofs.Deltas.{tail_in_order}
use Rattle.ob_time.specs.Calendar.{day_count}
use Rattle.ob_state.specs.State.{BookState}
use Rattle.ob_state.specs.Next.{next}
use Rattle.ob_state.specs.Amounts.{amount, moves}
use Rattle.ob_book.specs.Acts.{Referenced}
use Rattle.ob_sql_rows.specs.Rows.{Columns, moved_row}
use Rattle.ob_record.specs.Tables.{rows_of_moves, moved_rows}

append_in_order : (ms ns : List Moved) → AreInOrder ms → AreInOrder ns → All (λ m. All (IsBefore m) ns) ms → AreInOrder (ms ++ ns)
append_in_order [] ns om on h = on
append_in_order (m ∷ ms) ns om on h =
    AllPairs-cons IsBefore m (ms ++ ns)
    (All-append (IsBefore m) ms ns (λ i d l. om 0 (suc i) d (omega arith) (omega arith)) (h 0 m (omega arith)))
    (append_in_order ms ns (tail_in_order m ms om) on (All-tail (λ k. All (IsBefore k) ns) m ms h))

range_in_order : (f : ℕ → ℤ) (dim : Dim) (a n : ℕ) → AreInOrder (map (λ key. record { dim = dim; key = key; delta = f key }) (range_with_len a n))
range_in_order f dim a n = λ i j d l k.
    let row : ℕ → Moved = λ key. record { dim = dim; key = key; delta = f key } in
    let within : j < n = omega (arith, k, length-map-range_with_len row a n) in
    let first : get_or (map row (range_with_len a n)) i d ≡ row (a + i) = get_or-map-range_with_len row a n i (a + i) d (omega arith) refl in
    let second : get_or (map row (range_with_len a n)) j d ≡ row (a + j) = get_or-map-range_with_len row a n j (a + j) d within refl in
    subst (λ (m : Moved). IsBefore m (get_or (map row (range_with_len a n)) j d)) (sym first)
    (subst (λ (m : Moved). IsBefore (row (a + i)) m) (sym second) (inr (refl, omega arith)))

under_in_order : (change : Dim → ℕ → ℤ) (days : ℕ) (dim : Dim) → AreInOrder (changes_under change days dim)
unfolding keys
under_in_order change days Cause = range_in_order (change Cause) Cause 0 64
under_in_order change days Feeder = range_in_order (change Feeder) Feeder 1 255
under_in_order change days Day = range_in_order (change Day) Day 0 days

under_dim : (change : Dim → ℕ → ℤ) (days : ℕ) (dim : Dim) → All (λ m. m.dim ≡ dim) (changes_under change days dim)
under_dim change days dim = All-map (λ m. m.dim ≡ dim) (λ key. record { dim = dim; key = key; delta = change dim key }) (keys days dim) (λ i d l. refl)

before_by_dim : (d e : Dim) (ms ns : List Moved) → dim_number d < dim_number e → All (λ m. m.dim ≡ d) ms → All (λ n. n.dim ≡ e) ns → All (λ m. All (IsBefore m) ns) ms
before_by_dim d e ms ns l hm hn = λ i k n j c o. inl (omega (arith, ap dim_number (hm i k n), ap dim_number (hn j c o), l))

all_in_order : (change : Dim → ℕ → ℤ) (days : ℕ) → AreInOrder (changes_under change days Cause ++ changes_under change days Feeder ++ changes_under change days Day)
all_in_order change days =
    append_in_order (changes_under change days Cause ++ changes_under change days Feeder) (changes_under change days Day)
    (append_in_order (changes_under change days Cause) (changes_under change days Feeder) (under_in_order change days Cause) (under_in_order change days Feeder)
    (before_by_dim Cause Feeder (changes_under change days Cause) (changes_under change days Feeder) (omega arith) (under_dim change days Cause) (under_dim change days Feeder)))
    (under_in_order change days Day)
    (All-append (λ m. All (IsBefore m) (changes_under change days Day)) (changes_under change days Cause) (changes_under change days Feeder)
    (before_by_dim Cause Day (changes_under change days Cause) (changes_under change days Day) (omega arith) (under_dim change days Cause) (under_dim change days Day))
    (before_by_dim Feeder Day (changes_under change days Feeder) (changes_under change days Day) (omega arith) (under_dim change days Feeder) (under_dim change days Day)))

moves_in_order : (change : Dim → ℕ → ℤ) (days : ℕ) → AreInOrder (moves_by change days)
moves_in_order change days = AllPairs-filter IsBefore (λ (m : Moved). is_nonzero m.delta) _ (all_in_order change days)

-- ---- under numbers
abbrev pub Numbered : Type 0
Numbered = ℕ × Moved

abbrev pub numbered_row : Numbered → Columns
numbered_row p = moved_row p.0 (dim_number p.1.dim) p.1.key p.1.delta

abbrev pub numbered_cmp : Numbered → Numbered → Ordering
numbered_cmp a b = ordering_then (nat_cmp a.0 b.0) (ordering_then (nat_cmp (dim_number a.1.dim) (dim_number b.1.dim)) (nat_cmp a.1.key b.1.key))

abbrev under : ℕ → List Moved → List Numbered
under n ms = map (λ m. (n, m)) ms

abbrev pub numbered : BookState → ℕ → List Referenced → List Numbered
numbered b n [] = []
numbered b n (a ∷ more) = under n (moves b (next b a.command)) ++ numbered (next b a.command) (n + 1) more

pub rows_are : (b : BookState) (n : ℕ) (list : List Referenced) → map numbered_row (numbered b n list) ≡ moved_rows b n list
rows_are b n [] = refl
rows_are b n (a ∷ more) = go (moves b (next b a.command)) ∙ ap (λ l. rows_of_moves n (moves b (next b a.command)) ++ l) (rows_are (next b a.command) (n + 1) more)
  where
    go : (ms : List Moved) → map numbered_row (under n ms ++ numbered (next b a.command) (n + 1) more) ≡ rows_of_moves n ms ++ map numbered_row (numbered (next b a.command) (n + 1) more)
    go [] = refl
    go (m ∷ ms) = ap (λ l. numbered_row (n, m) ∷ l) (go ms)

nat_less : (m n : ℕ) → m < n → nat_cmp m n ≡ Less
nat_less m n h = grind (arith, nat_tests)

nat_same : (n : ℕ) → nat_cmp n n ≡ Equal
nat_same n = grind (arith, nat_tests)

before_cmp : (n : ℕ) (l m : Moved) → IsBefore l m → numbered_cmp (n, l) (n, m) ≡ Less
before_cmp n l m (inl less) = rw (nat_same n, nat_less (dim_number l.dim) (dim_number m.dim) less)
before_cmp n l m (inr both) = rw (nat_same n, both.0, nat_same (dim_number m.dim), nat_less l.key m.key both.1)

later_cmp : (a b : Numbered) → a.0 < b.0 → numbered_cmp a b ≡ Less
later_cmp a b less = rw (nat_less a.0 b.0 less)

later_too : (a : Numbered) (n : ℕ) (ms : List Moved) (rest : List Numbered) → a.0 < n → AllByRecursion (λ p. numbered_cmp a p ≡ Less) rest → AllByRecursion (λ p. numbered_cmp a p ≡ Less) (under n ms ++ rest)
later_too a n [] rest low all = all
later_too a n (m ∷ ms) rest low all = (later_cmp a (n, m) low, later_too a n ms rest low all)

all_later : (b : BookState) (n : ℕ) (list : List Referenced) (p : Numbered) → p.0 < n → AllByRecursion (λ q. numbered_cmp p q ≡ Less) (numbered b n list)
all_later b n [] p low = tt
all_later b n (a ∷ more) p low = later_too p n (moves b (next b a.command)) (numbered (next b a.command) (n + 1) more) low (all_later (next b a.command) (n + 1) more p (omega (arith, low)))

same_head : (n : ℕ) (m : Moved) (ms : List Moved) (rest : List Numbered) → AllByRecursion (IsBefore m) ms → AllByRecursion (λ p. numbered_cmp (n, m) p ≡ Less) rest → AllByRecursion (λ p. numbered_cmp (n, m) p ≡ Less) (under n ms ++ rest)
same_head n m [] rest before all = all
same_head n m (k ∷ ms) rest before all = (before_cmp n m k before.0, same_head n m ms rest before.1 all)

rise_under : (n : ℕ) (ms : List Moved) (rest : List Numbered) → AreInOrder ms → ((m : Moved) → AllByRecursion (λ p. numbered_cmp (n, m) p ≡ Less) rest) → IsStrictlySortedBy numbered_cmp rest → IsStrictlySortedBy numbered_cmp (under n ms ++ rest)
unfolding IsStrictlySortedBy
rise_under n [] rest order later up = up
rise_under n (m ∷ ms) rest order later up =
    (same_head n m ms rest (recursion_from_All (IsBefore m) ms (λ i d l. order 0 (suc i) d (omega arith) (omega (arith, l)))) (later m), rise_under n ms rest (tail_in_order m ms order) later up)

pub rise : (b : BookState) (n : ℕ) (list : List Referenced) → IsStrictlySortedBy numbered_cmp (numbered b n list)
unfolding IsStrictlySortedBy
rise b n [] = tt
rise b n (a ∷ more) =
    rise_under n (moves b (next b a.command)) (numbered (next b a.command) (n + 1) more) (moves_in_order (λ dim key. pos (amount (next b a.command) dim key) -ℤ pos (amount b dim key)) (day_count b.period))
    (λ m. all_later (next b a.command) (n + 1) more (n, m) (omega arith)) (rise (next b a.command) (n + 1) more)

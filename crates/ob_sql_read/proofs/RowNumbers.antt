-- Rows whose numbers rise.
use Rattle.std.proofs.Common.{◌≡◌, ℕ, suc, ℤ, pos, negsuc, ◌+◌, ◌-◌, ◌^◌, ◌≤◌, ◌<◌, List, [], ◌∷◌, ◌++◌, Option, Some, None, IsTrue, length, filter, map, cond, true, false, Bool, refl, sym, ap, subst, ◌∙◌, arith, inl, inr, true≢false, slice_index_or, Ordering, Less, Equal, Greater}
use Rattle.std.specs.Prelude.{◌<ℤ◌, ◌↔◌}
use Rattle.std.specs.List.{AllByRecursion}
use Rattle.std.specs.List.Sorted.{IsPermutation, IsSorted}
use Rattle.std.specs.Ordering.{int_cmp, is_lt, is_eq, MatchOrdering}
use Rattle.std.specs.Cmp.{int_ranked}
use Rattle.std.proofs.lemmas.Bool.{cases_Bool}
use Rattle.std.proofs.lemmas.Int.{ints}
use Rattle.std.proofs.lemmas.List.Sums.{length-filter}
use Rattle.std.proofs.lemmas.List.Elements.{recursion_from_All, All-from_recursion}
use Rattle.std.proofs.lemmas.List.Sorted.{sum_by-IsPermutation, All-permutation, IsPermutation-sym}
use Rattle.sqlite_value.proofs.OrderLemmas.{value_cmp-Int}
use Rattle.sqlite.specs.Order.{Row, value_cmp}
use Rattle.sqlite.specs.Tree.{has_rowid, rowid}
use Rattle.sqlite_trees.specs.View.{is_int}
use Rattle.sqlite_value.specs.declared.value.Value.{Value}
use Rattle.sqlite_value.specs.declared.value.Value.TheVariants.{Null, Int, Real, Text, Blob}
use Rattle.ob_sql_rows.specs.Rows.{AreApart}
use Rattle.ob_sql_read.specs.Apart.{IsAbove}

-- ---- numbers
never_below : (n : ℤ) → n <ℤ n → ⊥
never_below n h = omega (arith, ints)

crossed : (m n : ℤ) → m <ℤ n → n <ℤ m → ⊥
crossed m n below above = omega (arith, ints)

above_up : (a b c : ℤ) → a <ℤ b → b <ℤ c → a <ℤ c
above_up a b c below above = omega (arith, ints)

same_between : (a b : ℤ) → ¬ (a <ℤ b) → ¬ (b <ℤ a) → a ≡ b
same_between a b low high = go (int_cmp a b) (int_ranked a b (int_cmp a b) refl)
  where
    go : (r : Ordering) → MatchOrdering r (a <ℤ b) (a ≡ b) (b <ℤ a) → a ≡ b
    go Less h = absurd (low h)
    go Equal h = h
    go Greater h = absurd (high h)

same_cmp : (n : ℤ) → int_cmp n n ≡ Equal
same_cmp n = go (int_cmp n n) refl (int_ranked n n (int_cmp n n) refl)
  where
    go : (r : Ordering) → int_cmp n n ≡ r → MatchOrdering r (n <ℤ n) (n ≡ n) (n <ℤ n) → int_cmp n n ≡ Equal
    go Less e h = absurd (never_below n h)
    go Equal e h = e
    go Greater e h = absurd (never_below n h)

equal_cmp : (m n : ℤ) → is_eq (int_cmp m n) ≡ true → m ≡ n
equal_cmp m n = go (int_cmp m n) (int_ranked m n (int_cmp m n) refl)
  where
    go : (r : Ordering) → MatchOrdering r (m <ℤ n) (m ≡ n) (n <ℤ m) → is_eq r ≡ true → m ≡ n
    go Less h is = absurd (true≢false (sym is))
    go Equal h is = h
    go Greater h is = absurd (true≢false (sym is))

not_less : (m n : ℤ) → is_lt (int_cmp m n) ≡ false → ¬ (m <ℤ n)
not_less m n = go (int_cmp m n) (int_ranked m n (int_cmp m n) refl)
  where
    go : (r : Ordering) → MatchOrdering r (m <ℤ n) (m ≡ n) (n <ℤ m) → is_lt r ≡ false → ¬ (m <ℤ n)
    go Less h is = absurd (true≢false is)
    go Equal h is = λ below. never_below n (subst (λ k. k <ℤ n) h below)
    go Greater h is = λ below. crossed m n below h

-- ---- a row and a number
has_own : (r : Row) (n : ℤ) → rowid r ≡ Int n → has_rowid n r ≡ true
has_own r n is = ap (λ v. is_eq (value_cmp v (Int n))) is ∙ ap is_eq (value_cmp-Int n n ∙ same_cmp n)

has_one : (r : Row) (n id : ℤ) → rowid r ≡ Int n → has_rowid id r ≡ true → n ≡ id
has_one r n id is has = equal_cmp n id (ap is_eq (sym (value_cmp-Int n id)) ∙ ap (λ v. is_eq (value_cmp v (Int id))) (sym is) ∙ has)

-- ---- how many rows have a number
abbrev one_if : Bool → ℕ
one_if b = cond b 1 0

abbrev count : ℤ → List Row → ℕ
count id rows = length (filter (has_rowid id) rows)

count_first : (id : ℤ) (r : Row) (rows : List Row) → count id (r ∷ rows) ≡ cond (has_rowid id r) 1 0 + count id rows
count_first id r rows = elim (cases_Bool (has_rowid id r)) [
  | inl t ↦ rw (t) (omega arith)
  | inr f ↦ rw (f) (omega arith)
]

count_both : (id : ℤ) (xs ys : List Row) → count id (xs ++ ys) ≡ count id xs + count id ys
count_both id [] ys = omega arith
count_both id (x ∷ xs) ys = omega (arith, count_first id x (xs ++ ys), count_first id x xs, count_both id xs ys)

abbrev pub UpTo : ℤ → Row → Type 0
UpTo last r = (n : ℤ) × (rowid r ≡ Int n) × (¬ (last <ℤ n))

-- the rows have numbers of their own, up to the last, which is that of the last row
abbrev pub RiseTo : Option ℤ → List Row → Type 0
RiseTo None rows = rows ≡ []
RiseTo (Some last) rows =
    AreApart rows × AllByRecursion (UpTo last) rows × (front : List Row) × (row : Row) × (rows ≡ front ++ row ∷ []) × (rowid row ≡ Int last)

none_above : (rows : List Row) (last id : ℤ) → AllByRecursion (UpTo last) rows → last <ℤ id → count id rows ≡ 0
none_above [] last id all above = refl
none_above (r ∷ rows) last id all above =
    let none : has_rowid id r ≡ false = elim (cases_Bool (has_rowid id r)) [
      | inl t ↦ absurd (all.0.2 (subst (λ m. last <ℤ m) (sym (has_one r all.0.0 id all.0.1 t)) above))
      | inr f ↦ f
    ] in
    omega (arith, count_first id r rows, ap one_if none, none_above rows last id all.1 above)

-- ---- one more row
all_more : (P : Row → Type 0) (rows : List Row) (row : Row) → AllByRecursion P rows → P row → AllByRecursion P (rows ++ row ∷ [])
all_more P [] row all is = (is, tt)
all_more P (r ∷ rows) row all is = (all.0, all_more P rows row all.1 is)

all_up : (last n : ℤ) (rows : List Row) → last <ℤ n → AllByRecursion (UpTo last) rows → AllByRecursion (UpTo n) rows
all_up last n [] above all = tt
all_up last n (r ∷ rows) above all = ((all.0.0, all.0.1, λ more. all.0.2 (above_up last n all.0.0 above more)), all_up last n rows above all.1)

count_one : (id : ℤ) (row : Row) → count id (row ∷ []) ≤ 1
count_one id row = elim (cases_Bool (has_rowid id row)) [
  | inl t ↦ rw t (omega arith)
  | inr f ↦ rw f (omega arith)
]

has_int : (r : Row) (n : ℤ) → rowid r ≡ Int n → IsTrue (is_int (rowid r))
has_int r n is = ap is_int is

one_apart : (row : Row) (n : ℤ) → rowid row ≡ Int n → AreApart (row ∷ [])
one_apart row n is = record { numbers = (has_int row n is, tt); apart = λ id. count_one id row }

pub rise_more : (last : Option ℤ) (rows : List Row) (row : Row) (n : ℤ) → RiseTo last rows → rowid row ≡ Int n → IsAbove last n → RiseTo (Some n) (rows ++ row ∷ [])
rise_more None rows row n empty is above = (
  subst AreApart (ap (λ l. l ++ row ∷ []) (sym empty)) (one_apart row n is),
  subst (AllByRecursion (UpTo n)) (ap (λ l. l ++ row ∷ []) (sym empty)) ((n, is, never_below n), tt),
  rows,
  row,
  refl,
  is,
)
rise_more (Some last) rows row n up is above = (
  record {
    numbers = all_more (λ r. IsTrue (is_int (rowid r))) rows row up.0.numbers (has_int row n is);
    apart = λ id. elim (cases_Bool (has_rowid id row)) [
      | inl t ↦
          let same : n ≡ id = has_one row n id is t in
          let none : count id rows ≡ 0 = none_above rows last id up.1 (subst (λ m. last <ℤ m) same above) in
          omega (arith, count_both id rows (row ∷ []), count_one id row, none)
      | inr f ↦
          let none : count id (row ∷ []) ≡ 0 = rw f refl in
          omega (arith, count_both id rows (row ∷ []), none, up.0.apart id)
    ];
  },
  all_more (UpTo n) rows row (all_up last n rows above up.1) (n, is, never_below n),
  rows,
  row,
  refl,
  is,
)

pub none_apart : AreApart []
none_apart = record { numbers = tt; apart = λ id. omega arith }

pub rise_apart : (last : Option ℤ) (rows : List Row) → RiseTo last rows → AreApart rows
rise_apart None rows empty = subst AreApart (sym empty) none_apart
rise_apart (Some last) rows up = up.0

-- ---- a row that isn't above those before it
some_int : (v : Value) → IsTrue (is_int v) → (n : ℤ) × (v ≡ Int n)
some_int Null is = absurd (true≢false (sym is))
some_int (Int n) is = (n, refl)
some_int (Real x) is = absurd (true≢false (sym is))
some_int (Text t) is = absurd (true≢false (sym is))
some_int (Blob b) is = absurd (true≢false (sym is))

all_back : (P : Row → Type 0) (xs ys : List Row) → AllByRecursion P (xs ++ ys) → AllByRecursion P ys
all_back P [] ys all = all
all_back P (x ∷ xs) ys all = all_back P xs ys all.1

abbrev pub by_rowid : Row → Row → Ordering
by_rowid a b = value_cmp (rowid a) (rowid b)

at_front : (front : List Row) (a : Row) (rest : List Row) (d : Row) → slice_index_or (front ++ (a ∷ rest)) (length front) d ≡ a
at_front [] a rest d = refl
at_front (x ∷ front) a rest d = at_front front a rest d

after_front : (front : List Row) (a b : Row) (rest : List Row) (d : Row) → slice_index_or (front ++ (a ∷ (b ∷ rest))) (length front + 1) d ≡ b
after_front [] a b rest d = refl
after_front (x ∷ front) a b rest d = let e : suc (length front) + 1 ≡ suc (length front + 1) = omega arith in ap (λ n. slice_index_or (x ∷ (front ++ (a ∷ (b ∷ rest)))) n d) e ∙ after_front front a b rest d

front_fits : (front : List Row) (a b : Row) (rest : List Row) → length front + 1 < length (front ++ (a ∷ (b ∷ rest)))
front_fits [] a b rest = omega arith
front_fits (x ∷ front) a b rest = omega (arith, front_fits front a b rest)

neighbours : (front : List Row) (a b : Row) (rest : List Row) → IsSorted by_rowid (front ++ (a ∷ (b ∷ rest))) → is_lt (by_rowid b a) ≡ false
neighbours front a b rest sorted =
    let at = sorted (length front) a (omega arith) (front_fits front a b rest) in
    ap (λ x. is_lt (by_rowid x a)) (sym (after_front front a b rest a)) ∙ ap (λ y. is_lt (by_rowid (slice_index_or (front ++ (a ∷ (b ∷ rest))) (length front + 1) a) y)) (sym (at_front front a (b ∷ rest) a)) ∙ at

join : (xs : List Row) (a : Row) (ys : List Row) → (xs ++ a ∷ []) ++ ys ≡ xs ++ (a ∷ ys)
join [] a ys = refl
join (x ∷ xs) a ys = ap (λ l. x ∷ l) (join xs a ys)

twice : (id : ℤ) (front : List Row) (a b : Row) (rest : List Row) → has_rowid id a ≡ true → has_rowid id b ≡ true → 2 ≤ count id (front ++ (a ∷ (b ∷ rest)))
twice id front a b rest has_a has_b =
    omega (arith, count_both id front (a ∷ (b ∷ rest)), count_first id a (b ∷ rest), count_first id b rest, ap one_if has_a, ap one_if has_b)

pub not_apart : (last : Option ℤ) (given : List Row) (row : Row) (rest : List Row) → RiseTo last given → IsSorted by_rowid (given ++ (row ∷ rest))
    → ((n : ℤ) → rowid row ≡ Int n → ¬ IsAbove last n) → ¬ AreApart (given ++ (row ∷ rest))
not_apart None given row rest up sorted off = λ apart.
    let all = all_back (λ r. IsTrue (is_int (rowid r))) given (row ∷ rest) apart.numbers in
    let it = some_int (rowid row) all.0 in
    off it.0 it.1 tt
not_apart (Some last) given row rest up sorted off = λ apart.
    let all = all_back (λ r. IsTrue (is_int (rowid r))) given (row ∷ rest) apart.numbers in
    let it = some_int (rowid row) all.0 in
    let split : given ++ (row ∷ rest) ≡ up.2 ++ (up.3 ∷ (row ∷ rest)) = ap (λ l. l ++ (row ∷ rest)) up.4 ∙ join up.2 up.3 (row ∷ rest) in
    let order = neighbours up.2 up.3 row rest (subst (IsSorted by_rowid) split sorted) in
    let below : ¬ (it.0 <ℤ last) = not_less it.0 last (ap is_lt (sym (value_cmp-Int it.0 last)) ∙ ap (λ v. is_lt (value_cmp v (Int last))) (sym it.1) ∙ ap (λ v. is_lt (value_cmp (rowid row) v)) (sym up.5) ∙ order) in
    let same : it.0 ≡ last = same_between it.0 last below (off it.0 it.1) in
    let more = twice last up.2 up.3 row rest (has_own up.3 last up.5) (has_own row last (it.1 ∙ ap Int same)) in
    let less : count last (up.2 ++ (up.3 ∷ (row ∷ rest))) ≤ 1 = subst (λ l. count last l ≤ 1) split (apart.apart last) in
    omega (arith, more, less)

-- ---- an answer of the rowids of a tree
abbrev pub number_of : Row → Row
number_of r = rowid r ∷ []

count_shown : (id : ℤ) (tree : List Row) → count id (map number_of tree) ≡ count id tree
count_shown id [] = refl
count_shown id (r ∷ tree) = count_first id (number_of r) (map number_of tree) ∙ ap (λ n. cond (has_rowid id r) 1 0 + n) (count_shown id tree) ∙ sym (count_first id r tree)

all_shown : (P : Value → Type 0) (tree : List Row) → AllByRecursion (λ r. P (rowid r)) tree ↔ AllByRecursion (λ r. P (rowid r)) (map number_of tree)
all_shown P [] = (λ x. x, λ x. x)
all_shown P (r ∷ tree) = (λ all. (all.0, (all_shown P tree).0 all.1), λ all. (all.0, (all_shown P tree).1 all.1))

moved_count : (id : ℤ) (xs ys : List Row) → IsPermutation xs ys → count id ys ≡ count id xs
moved_count id xs ys moved = length-filter (has_rowid id) ys ∙ sum_by-IsPermutation (λ r. cond (has_rowid id r) 1 0) xs ys moved ∙ sym (length-filter (has_rowid id) xs)

moved_all : (P : Row → Type 0) (xs ys : List Row) → IsPermutation xs ys → AllByRecursion P xs → AllByRecursion P ys
moved_all P xs ys moved all = recursion_from_All P ys (All-permutation P xs ys moved (All-from_recursion P xs all))

pub apart_as : (tree answer : List Row) → IsPermutation (map number_of tree) answer → AreApart answer ↔ AreApart tree
apart_as tree answer moved = (
  λ apart. record {
    numbers = (all_shown (λ v. IsTrue (is_int v)) tree).1 (moved_all (λ r. IsTrue (is_int (rowid r))) answer (map number_of tree) (IsPermutation-sym _ _ moved) apart.numbers);
    apart = λ id. omega (arith, apart.apart id, moved_count id (map number_of tree) answer moved, count_shown id tree);
  },
  λ apart. record {
    numbers = moved_all (λ r. IsTrue (is_int (rowid r))) (map number_of tree) answer moved ((all_shown (λ v. IsTrue (is_int v)) tree).0 apart.numbers);
    apart = λ id. omega (arith, apart.apart id, moved_count id (map number_of tree) answer moved, count_shown id tree);
  },
)

-- ---- how many numbers of 64 bits are above the last
abbrev pub room : Option ℤ → ℕ
room None = 2 ^ 64
room (Some (pos n)) = 2 ^ 63 - suc n
room (Some (negsuc n)) = 2 ^ 63 + n

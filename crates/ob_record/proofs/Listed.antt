-- Rows of lists, where one element joins them, is changed or is taken out.
use Rattle.std.proofs.Common.{◌≡◌, ℕ, ◌+◌, ◌<◌, ◌==◌, Bool, true, false, not, zero, suc, List, [], ◌∷◌, ◌++◌, map, filter, set, length, Option, Some, None, refl, sym, ap, ap₂, subst, ◌∙◌, arith, inl, inr, nat_lt, true≢false}
use Rattle.std.specs.Prelude.{if◌then◌else◌, slice_index_or}
use Rattle.std.specs.List.{All, AllByRecursion, find}
use Rattle.std.specs.List.Sorted.{IsPermutation}
use Rattle.std.proofs.lemmas.Bool.{cases_Bool}
use Rattle.std.proofs.lemmas.Bool.Decides.{nat_tests}
use Rattle.std.proofs.lemmas.List.Elements.{All-head, All-tail}
use Rattle.std.proofs.lemmas.List.Sorted.{IsPermutation-refl, IsPermutation-sym, IsPermutation-cons, IsPermutation-map, IsPermutation-to_front}
use Rattle.sqlite_trees.proofs.ListLemmas.{IsPermutation-filter}
use Rattle.sqlite.proofs.Callers.{one_permutation}
use Rattle.ob_cust.specs.declared.Customer.{Customer}
use Rattle.ob_cust.specs.Roll.{with_customer}
use Rattle.ob_cust.proofs.Rolls.{AreRising, rising_head, rising_tail}
use Rattle.ob_sheet.specs.declared.Entry.{Entry}
use Rattle.ob_sheet.specs.Order.{entry_of}
use Rattle.ob_sheet.specs.Sheet.{AreNumbered}
use Rattle.ob_sql_rows.specs.Rows.{Columns, is_key, change_where}
use Rattle.ob_record.specs.Tables.{numbered, present}

-- ---- one element more
pub numbered_push : {X : Type 0} (row : ℕ → X → Columns) (n : ℕ) (xs : List X) (x : X) (key : ℕ) → n + length xs ≡ key
    → numbered row n (xs ++ x ∷ []) ≡ numbered row n xs ++ row key x ∷ []
numbered_push row n [] x key at = let e : n ≡ key = omega (arith, at) in ap (λ k. row k x ∷ []) e
numbered_push row n (y ∷ xs) x key at = ap (λ l. row n y ∷ l) (numbered_push row (n + 1) xs x key (omega (arith, at)))

-- a free place is filled
pub present_put : {X : Type 0} (row : ℕ → X → Columns) (n : ℕ) (xs : List (Option X)) (k : ℕ) (x : X) (key : ℕ) → n + k ≡ key → k < length xs → slice_index_or xs k None ≡ None
    → IsPermutation (present row n xs ++ row key x ∷ []) (present row n (set xs k (Some x)))
present_put row n [] k x key at low free = absurd (omega (arith, low))
present_put row n (None ∷ xs) zero x key at low free =
    let e : n ≡ key = omega (arith, at) in
    subst (λ m. IsPermutation (present row (n + 1) xs ++ row m x ∷ []) (row n x ∷ present row (n + 1) xs)) e (IsPermutation-to_front (present row (n + 1) xs) (row n x))
present_put row n (Some y ∷ xs) zero x key at low free = cc
present_put row n (None ∷ xs) (suc k) x key at low free = present_put row (n + 1) xs k x key (omega (arith, at)) (omega (arith, low)) free
present_put row n (Some y ∷ xs) (suc k) x key at low free =
    IsPermutation-cons (row n y) _ _ (present_put row (n + 1) xs k x key (omega (arith, at)) (omega (arith, low)) free)

-- a customer joins the roll
pub joins : (c : Customer) (customers : List Customer) → IsPermutation (customers ++ c ∷ []) (with_customer c customers)
joins c [] = IsPermutation-refl _
joins c (d ∷ ds) = elim (cases_Bool (nat_lt c.«no» d.«no»)) [
  | inl before ↦ rw before (IsPermutation-to_front (d ∷ ds) c)
  | inr behind ↦ rw behind (IsPermutation-cons d _ _ (joins c ds))
]

-- ---- one place by its number
module _ {X : Type 0} (row : ℕ → X → Columns) (key : ℕ) (keyed : (j : ℕ) (x : X) → is_key key (row j x) ≡ (j == key)) where
  none_past : (n : ℕ) (xs : List (Option X)) → key < n → filter (is_key key) (present row n xs) ≡ []
  none_past n [] past = refl
  none_past n (None ∷ xs) past = none_past (n + 1) xs (omega (arith, past))
  none_past n (Some x ∷ xs) past =
      let other : (n == key) ≡ false = grind (arith, nat_tests) in
      rw (keyed n x, other) (none_past (n + 1) xs (omega (arith, past)))

  all_past : (n : ℕ) (xs : List (Option X)) → key < n → filter (λ r. not (is_key key r)) (present row n xs) ≡ present row n xs
  all_past n [] past = refl
  all_past n (None ∷ xs) past = all_past (n + 1) xs (omega (arith, past))
  all_past n (Some x ∷ xs) past =
      let other : (n == key) ≡ false = grind (arith, nat_tests) in
      rw (keyed n x, other) (ap (λ l. row n x ∷ l) (all_past (n + 1) xs (omega (arith, past))))

  -- the one row of the place's number
  pub present_one : (n k : ℕ) (xs : List (Option X)) (x : X) → n + k ≡ key → slice_index_or xs k None ≡ Some x → filter (is_key key) (present row n xs) ≡ row key x ∷ []
  present_one n k [] x at holds = cc
  present_one n zero (None ∷ xs) x at holds = cc
  present_one n zero (Some y ∷ xs) x at holds =
      let same : (n == key) ≡ true = grind (arith, nat_tests) in
      let here : n ≡ key = omega (arith, at) in
      let it : y ≡ x = cc in
      rw (keyed n y, same) (ap₂ (λ (r : Columns) (l : List Columns). r ∷ l) (ap₂ row here it) (none_past (n + 1) xs (omega (arith, at))))
  present_one n (suc k) (None ∷ xs) x at holds = present_one (n + 1) k xs x (omega (arith, at)) holds
  present_one n (suc k) (Some y ∷ xs) x at holds =
      let other : (n == key) ≡ false = grind (arith, nat_tests) in
      rw (keyed n y, other) (present_one (n + 1) k xs x (omega (arith, at)) holds)

  -- the rows once the place is cleared
  pub present_cleared : (n k : ℕ) (xs : List (Option X)) → n + k ≡ key → filter (λ r. not (is_key key r)) (present row n xs) ≡ present row n (set xs k None)
  present_cleared n k [] at = refl
  present_cleared n zero (None ∷ xs) at = all_past (n + 1) xs (omega (arith, at))
  present_cleared n zero (Some y ∷ xs) at =
      let same : (n == key) ≡ true = grind (arith, nat_tests) in
      rw (keyed n y, same) (all_past (n + 1) xs (omega (arith, at)))
  present_cleared n (suc k) (None ∷ xs) at = present_cleared (n + 1) k xs (omega (arith, at))
  present_cleared n (suc k) (Some y ∷ xs) at =
      let other : (n == key) ≡ false = grind (arith, nat_tests) in
      rw (keyed n y, other) (ap (λ l. row n y ∷ l) (present_cleared (n + 1) k xs (omega (arith, at))))

-- ---- the one element that passes a test is changed
-- what holds of those that pass holds of each that does
pub all_passing : {X : Type 0} (P : X → Type 0) (p : X → Bool) (xs : List X) → AllByRecursion P (filter p xs) → AllByRecursion (λ x. p x ≡ true → P x) xs
all_passing P p [] h = tt
all_passing P p (x ∷ xs) h = elim (cases_Bool (p x)) [
  | inl t ↦ (let here : AllByRecursion P (x ∷ filter p xs) = rw t at h in (λ _. here.0, all_passing P p xs here.1))
  | inr f ↦ (λ t. absurd (true≢false (sym t ∙ f)), all_passing P p xs (rw f at h))
]

module _ {X : Type 0} (row : X → Columns) (key : ℕ) (change : Columns → Columns) (test : X → Bool) (f : X → X) (keyed : (x : X) → is_key key (row x) ≡ test x) where
  -- the rows are changed as the elements are
  rows_changed : (xs : List X) → AllByRecursion (λ x. test x ≡ true → change (row x) ≡ row (f x)) xs
      → change_where (is_key key) change (map row xs) ≡ map row (map (λ x. if test x then f x else x) xs)
  rows_changed [] made = refl
  rows_changed (x ∷ xs) made = elim (cases_Bool (test x)) [
    | inl passes ↦ rw (keyed x, passes) (ap₂ (λ (r : Columns) (l : List Columns). r ∷ l) (made.0 passes) (rows_changed xs made.1))
    | inr fails ↦ rw (keyed x, fails) (ap (λ l. row x ∷ l) (rows_changed xs made.1))
  ]

  pub one_changed : (rows : List Columns) (xs : List X) (x : X) → IsPermutation rows (map row xs) → filter test xs ≡ x ∷ [] → change (row x) ≡ row (f x)
      → IsPermutation (change_where (is_key key) change rows) (map row (map (λ y. if test y then f y else y) xs))
  one_changed rows xs x same one made =
      let made_each = all_passing (λ (y : X). change (row y) ≡ row (f y)) test xs (subst (AllByRecursion (λ (y : X). change (row y) ≡ row (f y))) (sym one) (made, tt)) in
      subst (IsPermutation (change_where (is_key key) change rows)) (rows_changed xs made_each)
      (IsPermutation-map (λ r. if is_key key r then change r else r) rows (map row xs) same)

-- rows in another order have the same one row of a key
pub one_row : (rows known : List Columns) (key : ℕ) (row : Columns) → IsPermutation rows known → filter (is_key key) known ≡ row ∷ [] → filter (is_key key) rows ≡ row ∷ []
one_row rows known key row same one =
    one_permutation row (filter (is_key key) rows) (IsPermutation-sym _ _ (subst (IsPermutation (filter (is_key key) rows)) one (IsPermutation-filter (is_key key) rows known same)))

-- the rows of the elements that pass
rows_kept : {X : Type 0} (row : X → Columns) (key : ℕ) (test : X → Bool) → ((x : X) → is_key key (row x) ≡ test x) → (xs : List X)
    → filter (is_key key) (map row xs) ≡ map row (filter test xs)
rows_kept row key test keyed [] = refl
rows_kept row key test keyed (x ∷ xs) = elim (cases_Bool (test x)) [
  | inl passes ↦ rw (keyed x, passes) (ap (λ l. row x ∷ l) (rows_kept row key test keyed xs))
  | inr fails ↦ rw (keyed x, fails) (rows_kept row key test keyed xs)
]

-- the one element that passes has the one row of the key
pub row_of_one : {X : Type 0} (row : X → Columns) (key : ℕ) (test : X → Bool) (rows : List Columns) (xs : List X) (x : X) → ((y : X) → is_key key (row y) ≡ test y)
    → IsPermutation rows (map row xs) → filter test xs ≡ x ∷ [] → filter (is_key key) rows ≡ row x ∷ []
row_of_one row key test rows xs x keyed same one = one_row rows (map row xs) key (row x) same (rows_kept row key test keyed xs ∙ ap (map row) one)

-- ---- the one element of a number
none_above : (n : ℕ) (customers : List Customer) → All (λ c. n < c.«no») customers → filter (λ c. c.«no» == n) customers ≡ []
none_above n [] above = refl
none_above n (c ∷ cs) above =
    let low : n < c.«no» = All-head (λ d. n < d.«no») c cs above in
    let other : (c.«no» == n) ≡ false = grind (arith, nat_tests) in
    rw other (none_above n cs (All-tail (λ d. n < d.«no») c cs above))

pub one_customer : (customers : List Customer) (n : ℕ) (it : Customer) → AreRising customers → find (λ c. c.«no» == n) customers ≡ Some it → filter (λ c. c.«no» == n) customers ≡ it ∷ []
one_customer [] n it rising found = cc
one_customer (c ∷ cs) n it rising found = elim (cases_Bool (c.«no» == n)) [
  | inl same ↦
      let is : c.«no» ≡ n = grind (arith, nat_tests) in
      let rest = none_above n cs (λ k d low. let past = rising_head c cs rising k d low in omega (arith, past, is)) in
      let here : c ≡ it = (let at = rw same at found in cc) in
      rw (same, rest, here)
  | inr other ↦ rw other (one_customer cs n it (rising_tail c cs rising) (rw other at found))
]

-- the entries are numbered from this number on
abbrev pub AreNumberedFrom : ℕ → List Entry → Type 0
AreNumberedFrom k entries = (i : ℕ) (d : Entry) → i < length entries → (slice_index_or entries i d).«no» ≡ k + i

pub numbered_rest : (k : ℕ) (e : Entry) (es : List Entry) → AreNumberedFrom k (e ∷ es) → AreNumberedFrom (k + 1) es
numbered_rest k e es numbered i d low = let next = numbered (suc i) d (omega (arith, low)) in omega (arith, next)

none_before : (k n : ℕ) (entries : List Entry) → AreNumberedFrom k entries → n < k → filter (λ e. e.«no» == n) entries ≡ []
none_before k n [] numbered low = refl
none_before k n (e ∷ es) numbered low =
    let is : e.«no» ≡ k + 0 = numbered 0 e (omega arith) in
    let other : (e.«no» == n) ≡ false = grind (arith, nat_tests) in
    rw other (none_before (k + 1) n es (numbered_rest k e es numbered) (omega (arith, low)))

one_from : (k n : ℕ) (entries : List Entry) (it : Entry) → AreNumberedFrom k entries → entry_of entries n ≡ Some it → filter (λ e. e.«no» == n) entries ≡ it ∷ []
one_from k n [] it numbered found = cc
one_from k n (e ∷ es) it numbered found = elim (cases_Bool (e.«no» == n)) [
  | inl same ↦
      let is : e.«no» ≡ k + 0 = numbered 0 e (omega arith) in
      let low : n < k + 1 = grind (arith, nat_tests) in
      let here : e ≡ it = (let at = rw same at found in cc) in
      rw (same, none_before (k + 1) n es (numbered_rest k e es numbered) low, here)
  | inr other ↦ rw other (one_from (k + 1) n es it (numbered_rest k e es numbered) (rw other at found))
]

pub one_entry : (entries : List Entry) (n : ℕ) (it : Entry) → AreNumbered entries → entry_of entries n ≡ Some it → filter (λ e. e.«no» == n) entries ≡ it ∷ []
one_entry entries n it numbered found = one_from 1 n entries it (λ i d low. let at = numbered i d low in omega (arith, at)) found

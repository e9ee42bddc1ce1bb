-- Keys and names that no row has, and keys that one has.
use Rattle.std.proofs.Common.{◌≡◌, ℕ, ◌+◌, ◌<◌, ◌≤◌, ◌==◌, ◌||◌, Bool, true, false, cond, zero, suc, List, [], ◌∷◌, ◌++◌, map, length, Option, Some, None, is_some, option_map, refl, sym, ap₂, subst, ◌∙◌, arith, inl, inr, nat_lt, true≢false, position}
use Rattle.std.specs.Prelude.{slice_index_or}
use Rattle.std.specs.List.{AllByRecursion, list_any, position_or_len}
use Rattle.std.specs.Option.{option_map_or}
use Rattle.std.specs.List.Sorted.{IsPermutation}
use Rattle.std.proofs.lemmas.Bool.{cases_Bool, lt-ltb, or_from, or_left, or_parts, or_right}
use Rattle.std.proofs.lemmas.Bool.Decides.{nat_tests}
use Rattle.std.proofs.lemmas.List.Sorted.{IsPermutation-sym}
use Rattle.sqlite_trees.proofs.ListLemmas.{all-map, all-permutation, all_weaker}
use Rattle.ob_sheet.specs.declared.Entry.{Entry}
use Rattle.ob_sheet.specs.Order.{entry_of}
use Rattle.ob_sheet.specs.Sheet.{AreNumbered}
use Rattle.ob_sql_rows.specs.Rows.{Columns, is_key, entry_row}
use Rattle.ob_sql_rows.specs.Rules.{IsShort, IsShortValue}
use Rattle.ob_record.specs.Tables.{numbered, present}
use Rattle.ob_record.proofs.Keyed.{key_is}
use Rattle.ob_record.proofs.Listed.{AreNumberedFrom, all_passing, numbered_rest, one_entry}

-- ---- as the elements, so their rows
pub any_numbered : {X : Type 0} (row : ℕ → X → Columns) (test : Columns → Bool) (p : X → Bool) → ((n : ℕ) (x : X) → test (row n x) ≡ p x)
    → (n : ℕ) (xs : List X) → list_any test (numbered row n xs) ≡ list_any p xs
any_numbered row test p same n [] = refl
any_numbered row test p same n (x ∷ xs) = ap₂ (λ a b. a || b) (same n x) (any_numbered row test p same (n + 1) xs)

pub any_map : {X : Type 0} (row : X → Columns) (test : Columns → Bool) (p : X → Bool) → ((x : X) → test (row x) ≡ p x)
    → (xs : List X) → list_any test (map row xs) ≡ list_any p xs
any_map row test p same [] = refl
any_map row test p same (x ∷ xs) = ap₂ (λ a b. a || b) (same x) (any_map row test p same xs)

pub any_present : {X : Type 0} (row : ℕ → X → Columns) (test : Columns → Bool) (p : X → Bool) → ((n : ℕ) (x : X) → test (row n x) ≡ p x)
    → (n : ℕ) (xs : List (Option X)) → list_any test (present row n xs) ≡ list_any (λ o. option_map_or p o false) xs
any_present row test p same n [] = refl
any_present row test p same n (None ∷ xs) = any_present row test p same (n + 1) xs
any_present row test p same n (Some x ∷ xs) = ap₂ (λ a b. a || b) (same n x) (any_present row test p same (n + 1) xs)

pub none_append : {X : Type 0} (p : X → Bool) (xs ys : List X) → list_any p xs ≡ false → list_any p ys ≡ false → list_any p (xs ++ ys) ≡ false
none_append p [] ys h k = k
none_append p (x ∷ xs) ys h k =
    let parts = or_parts (p x) (list_any p xs) h in
    or_from (p x) (list_any p (xs ++ ys)) parts.0 (none_append p xs ys parts.1 k)

-- ---- elements under their numbers
module _ {X : Type 0} (row : ℕ → X → Columns) (key : ℕ) (keyed : (n : ℕ) (x : X) → is_key key (row n x) ≡ (n == key)) where
  -- a number past theirs is free
  pub number_free : (n : ℕ) (xs : List X) → n + length xs ≤ key → list_any (is_key key) (numbered row n xs) ≡ false
  number_free n [] past = refl
  number_free n (x ∷ xs) past =
      let low : n < key = omega (arith, past) in
      let other : (n == key) ≡ false = grind (arith, nat_tests) in
      or_from (is_key key (row n x)) (list_any (is_key key) (numbered row (n + 1) xs)) (keyed n x ∙ other) (number_free (n + 1) xs (omega (arith, past)))

  -- and each of theirs is there
  pub number_there : (n k : ℕ) (xs : List X) → n + k ≡ key → k < length xs → list_any (is_key key) (numbered row n xs) ≡ true
  number_there n k [] at low = absurd (omega (arith, low))
  number_there n zero (x ∷ xs) at low =
      let same : (n == key) ≡ true = grind (arith, nat_tests) in
      or_left (is_key key (row n x)) (list_any (is_key key) (numbered row (n + 1) xs)) (keyed n x ∙ same)
  number_there n (suc k) (x ∷ xs) at low =
      or_right (is_key key (row n x)) (list_any (is_key key) (numbered row (n + 1) xs)) (number_there (n + 1) k xs (omega (arith, at)) (omega (arith, low)))

  -- ---- places of their numbers
  places_past : (n : ℕ) (xs : List (Option X)) → key < n → list_any (is_key key) (present row n xs) ≡ false
  places_past n [] past = refl
  places_past n (None ∷ xs) past = places_past (n + 1) xs (omega (arith, past))
  places_past n (Some x ∷ xs) past =
      let other : (n == key) ≡ false = grind (arith, nat_tests) in
      or_from (is_key key (row n x)) (list_any (is_key key) (present row (n + 1) xs)) (keyed n x ∙ other) (places_past (n + 1) xs (omega (arith, past)))

  -- the number of an empty place is free
  pub place_free : (n k : ℕ) (xs : List (Option X)) → n + k ≡ key → slice_index_or xs k None ≡ None → list_any (is_key key) (present row n xs) ≡ false
  place_free n k [] at free = refl
  place_free n zero (None ∷ xs) at free = places_past (n + 1) xs (omega (arith, at))
  place_free n zero (Some x ∷ xs) at free = cc
  place_free n (suc k) (None ∷ xs) at free = place_free (n + 1) k xs (omega (arith, at)) free
  place_free n (suc k) (Some x ∷ xs) at free =
      let low : n < key = omega (arith, at) in
      let other : (n == key) ≡ false = grind (arith, nat_tests) in
      or_from (is_key key (row n x)) (list_any (is_key key) (present row (n + 1) xs)) (keyed n x ∙ other) (place_free (n + 1) k xs (omega (arith, at)) free)

  -- that of another is there
  pub place_there : (n k : ℕ) (xs : List (Option X)) (x : X) → n + k ≡ key → slice_index_or xs k None ≡ Some x → list_any (is_key key) (present row n xs) ≡ true
  place_there n k [] x at holds = cc
  place_there n zero (None ∷ xs) x at holds = cc
  place_there n zero (Some y ∷ xs) x at holds =
      let same : (n == key) ≡ true = grind (arith, nat_tests) in
      or_left (is_key key (row n y)) (list_any (is_key key) (present row (n + 1) xs)) (keyed n y ∙ same)
  place_there n (suc k) (None ∷ xs) x at holds = place_there (n + 1) k xs x (omega (arith, at)) holds
  place_there n (suc k) (Some y ∷ xs) x at holds =
      or_right (is_key key (row n y)) (list_any (is_key key) (present row (n + 1) xs)) (place_there (n + 1) k xs x (omega (arith, at)) holds)

-- ---- elements that are found or not
found_below : {X : Type 0} (p : X → Bool) (xs : List X) → list_any p xs ≡ true → position_or_len p xs < length xs
found_below p [] has = cc
found_below p (x ∷ xs) has = elim (cases_Bool (p x)) [
  | inl t ↦ rw t (omega arith)
  | inr f ↦ (let rest = found_below p xs (rw f at has) in rw f (omega (arith, rest)))
]

not_within : (b : Bool) (n : ℕ) → is_some (cond b (Some n) None) ≡ false → b ≡ false
not_within true n h = absurd (true≢false h)
not_within false n h = refl

-- where none is found none passes
pub none_found : {X : Type 0} (p : X → Bool) (xs : List X) → is_some (position p xs) ≡ false → list_any p xs ≡ false
none_found p xs h = elim (cases_Bool (list_any p xs)) [
  | inl t ↦
      let inside : nat_lt (position_or_len p xs) (length xs) ≡ true = lt-ltb (position_or_len p xs) (length xs) (found_below p xs t) in
      absurd (true≢false (sym inside ∙ not_within (nat_lt (position_or_len p xs) (length xs)) (position_or_len p xs) h))
  | inr f ↦ f
]

-- nothing is nothing of something
pub not_mapped : {X Y : Type 0} (f : X → Y) (o : Option X) → option_map f o ≡ None → is_some o ≡ false
not_mapped f None h = refl
not_mapped f (Some x) h = cc

-- ---- entries
none_from : (k n : ℕ) (entries : List Entry) → AreNumberedFrom k entries → k + length entries ≤ n → list_any (λ (e : Entry). e.«no» == n) entries ≡ false
none_from k n [] are past = refl
none_from k n (e ∷ es) are past =
    let is : e.«no» ≡ k + 0 = are 0 e (omega arith) in
    let low : k < n = omega (arith, past) in
    let other : (e.«no» == n) ≡ false = grind (arith, nat_tests) in
    or_from (e.«no» == n) (list_any (λ (d : Entry). d.«no» == n) es) other (none_from (k + 1) n es (numbered_rest k e es are) (omega (arith, past)))

entry_keyed : (number : ℕ) (e : Entry) → is_key number (entry_row e) ≡ (e.«no» == number)
entry_keyed number e = key_is number e.«no» (entry_row e) refl

-- the next number is free
pub next_entry_free : (entries : List Entry) (number : ℕ) → AreNumbered entries → number ≡ length entries + 1 → list_any (is_key number) (map entry_row entries) ≡ false
next_entry_free entries number are last =
    any_map entry_row (is_key number) (λ (e : Entry). e.«no» == number) (entry_keyed number) entries
    ∙ none_from 1 number entries (λ i d low. let at = are i d low in omega (arith, at)) (omega (arith, last))

-- the row of an entry with a short crew is short
row_short : (number : ℕ) (e : Entry) → (((e.«no» == number) ≡ true) → IsShort e.crew) → is_key number (entry_row e) ≡ true → AllByRecursion IsShortValue (entry_row e)
row_short number e short is = (tt, (tt, (tt, (tt, (tt, (tt, (short (sym (entry_keyed number e) ∙ is), (tt, tt))))))))

pub entry_short : (entries : List Entry) (number : ℕ) (e : Entry) → AreNumbered entries → entry_of entries number ≡ Some e → IsShort e.crew
    → (rows : List Columns) → IsPermutation rows (map entry_row entries) → AllByRecursion (λ row. is_key number row ≡ true → AllByRecursion IsShortValue row) rows
entry_short entries number e are found short rows same =
    let P : Entry → Type 0 = λ d. IsShort d.crew in
    let Q : Columns → Type 0 = λ row. is_key number row ≡ true → AllByRecursion IsShortValue row in
    let passing = all_passing P (λ (d : Entry). d.«no» == number) entries (subst (AllByRecursion P) (sym (one_entry entries number e are found)) (short, tt)) in
    let each = all_weaker (λ (d : Entry). (d.«no» == number) ≡ true → P d) (λ (d : Entry). Q (entry_row d)) (row_short number) entries passing in
    all-permutation Q (map entry_row entries) rows (IsPermutation-sym rows (map entry_row entries) same) (all-map Q entry_row entries each)

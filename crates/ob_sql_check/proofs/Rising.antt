-- Rows that rise by the number in their first field.
use Rattle.std.proofs.Common.{true≢false, ap₂, Bool, false, IsTrue, ◌≡◌, ℕ, zero, suc, ◌+◌, ◌<◌, pos, List, [], ◌∷◌, length, map, get_or, slice_index_or, Option, Some, None, is_some, true, Less, refl, sym, ap, subst, ◌∙◌, arith}
use Rattle.std.specs.Prelude.{◌↔◌, slice_get}
use Rattle.std.specs.List.{AllByRecursion, AllPairs}
use Rattle.std.specs.List.Sorted.{IsStrictlySortedBy}
use Rattle.std.specs.Ordering.{nat_cmp, int_cmp}
use Rattle.std.proofs.lemmas.Bool.Decides.{nat_tests}
use Rattle.sqlite_value.proofs.OrderLemmas.{value_cmp-Int}
use Rattle.ob_sql_rows.specs.Rows.{Columns, number}
use Rattle.ob_sql_rows.specs.declared.table.Table.TheVariants.{Customer}
use Rattle.ob_record.specs.Tables.{present, numbered}
use Rattle.ob_sql_read.specs.Parts.{row_cmp, standing}
use Rattle.ob_sql_check.specs.Parts.{placed}

pub nat_less : (m n : ℕ) → m < n → nat_cmp m n ≡ Less
nat_less m n h = grind (arith, nat_tests)

pub same_pos : (m n : ℕ) → int_cmp (pos m) (pos n) ≡ nat_cmp m n
same_pos m n = grind (arith, nat_tests)

-- a table with a key of one number: each computes as this one
pub before : (m n : ℕ) (a b : Columns) → m < n → row_cmp Customer (number m ∷ a) (number n ∷ b) ≡ Less
before m n a b h = rw (value_cmp-Int (pos m) (pos n), same_pos m n, nat_less m n h)

-- ---- elements, each with a number of its own
module _ {X : Type 0} (no : X → ℕ) (rest : X → Columns) where
  abbrev row : X → Columns
  row x = number (no x) ∷ rest x

  above : (x : X) (xs : List X) → ((i : ℕ) (d : X) → i < length xs → no x < no (get_or xs i d)) → AllByRecursion (λ r. row_cmp Customer (row x) r ≡ Less) (map row xs)
  above x [] low = tt
  above x (y ∷ ys) low = (before (no x) (no y) (rest x) (rest y) (low 0 x (omega arith)), above x ys (λ i d l. low (suc i) d (omega (arith, l))))

  pub rise_mapped : (xs : List X) → AllPairs (λ x y. no x < no y) xs → IsStrictlySortedBy (row_cmp Customer) (map row xs)
  unfolding IsStrictlySortedBy
  rise_mapped [] rising = tt
  rise_mapped (x ∷ xs) rising =
      (above x xs (λ i d l. rising 0 (suc i) d (omega arith) (omega (arith, l))), rise_mapped xs (λ i j d l k. rising (suc i) (suc j) d (omega (arith, l)) (omega (arith, k))))

pub standing_all : {X Y : Type 0} (f : X → Y) (xs : List X) → standing (map (λ x. Some (f x)) xs) ≡ map f xs
standing_all f [] = refl
standing_all f (x ∷ xs) = ap (λ l. f x ∷ l) (standing_all f xs)

pub place_is : {X Y : Type 0} (f : X → Y) (xs : List X) (at : ℕ) (d : X) → at < length xs → slice_index_or (map (λ x. Some (f x)) xs) at None ≡ Some (f (get_or xs at d))
place_is f [] at d low = absurd (omega (arith, low))
place_is f (x ∷ xs) zero d low = refl
place_is f (x ∷ xs) (suc at) d low = place_is f xs at d (omega (arith, low))

pub has_place : {X Y : Type 0} (f : X → Y) (xs : List X) (at : ℕ) → at < length (map (λ x. Some (f x)) xs) → true ≡ is_some (slice_index_or (map (λ x. Some (f x)) xs) at None)
has_place f [] at low = absurd (omega (arith, low))
has_place f (x ∷ xs) zero low = refl
has_place f (x ∷ xs) (suc at) low = has_place f xs at (omega (arith, low))

-- ---- places
-- a row is that of a place, where the place has what is expected
pub decides : (test : Bool) (place : Option Columns) (row expected : Columns) → IsTrue test ↔ (row ≡ expected) → place ≡ Some expected
    → IsTrue test ↔ (place ≡ Some row)
decides test place row expected is at =
    (λ yes. at ∙ ap Some (sym (is.0 yes)), λ e. is.1 (let both : Some row ≡ Some expected = sym e ∙ at in cc))

-- no row is that of an empty place
pub none_here : (place : Option Columns) (row : Columns) → place ≡ None → IsTrue false ↔ (place ≡ Some row)
none_here place row at = (λ e. absurd (true≢false (sym e)), λ e. absurd (let both : None ≡ Some row = sym at ∙ e in cc))

pub place_of : {X Y : Type 0} (f : X → Y) (xs : List X) (at : ℕ) (x : X) → slice_get xs at ≡ Some x → slice_index_or (map (λ x. Some (f x)) xs) at None ≡ Some (f x)
place_of f [] at x is = absurd cc
place_of f (y ∷ xs) zero x is = let e : y ≡ x = cc in ap (λ z. Some (f z)) e
place_of f (y ∷ xs) (suc at) x is = place_of f xs at x is

pub length_places : {X Y : Type 0} (f : X → Y) (xs : List X) → length (map (λ x. Some (f x)) xs) ≡ length xs
length_places f [] = refl
length_places f (x ∷ xs) = ap suc (length_places f xs)

pub length_placed : {X : Type 0} (row : ℕ → X → Columns) (n : ℕ) (xs : List (Option X)) → length (placed row n xs) ≡ length xs
length_placed row n [] = refl
length_placed row n (None ∷ xs) = ap suc (length_placed row (n + 1) xs)
length_placed row n (Some x ∷ xs) = ap suc (length_placed row (n + 1) xs)

pub some_placed : {X : Type 0} (row : ℕ → X → Columns) (n : ℕ) (xs : List (Option X)) (at : ℕ) → is_some (slice_index_or xs at None) ≡ is_some (slice_index_or (placed row n xs) at None)
some_placed row n [] at = refl
some_placed row n (None ∷ xs) zero = refl
some_placed row n (Some x ∷ xs) zero = refl
some_placed row n (None ∷ xs) (suc at) = some_placed row (n + 1) xs at
some_placed row n (Some x ∷ xs) (suc at) = some_placed row (n + 1) xs at

pub none_placed : {X : Type 0} (row : ℕ → X → Columns) (n : ℕ) (xs : List (Option X)) (at : ℕ) → slice_index_or xs at None ≡ None → slice_index_or (placed row n xs) at None ≡ None
none_placed row n [] at is = refl
none_placed row n (None ∷ xs) zero is = refl
none_placed row n (Some x ∷ xs) zero is = absurd cc
none_placed row n (None ∷ xs) (suc at) is = none_placed row (n + 1) xs at is
none_placed row n (Some x ∷ xs) (suc at) is = none_placed row (n + 1) xs at is

pub at_placed : {X : Type 0} (row : ℕ → X → Columns) (n : ℕ) (xs : List (Option X)) (at : ℕ) (x : X) → slice_index_or xs at None ≡ Some x → (k : ℕ) → k ≡ n + at → slice_index_or (placed row n xs) at None ≡ Some (row k x)
at_placed row n [] at x is k e = absurd cc
at_placed row n (None ∷ xs) zero x is k e = absurd cc
at_placed row n (Some y ∷ xs) zero x is k e = let here : y ≡ x = cc in let same : n ≡ k = omega (arith, e) in ap₂ (λ m z. Some (row m z)) same here
at_placed row n (None ∷ xs) (suc at) x is k e = at_placed row (n + 1) xs at x is k (omega (arith, e))
at_placed row n (Some y ∷ xs) (suc at) x is k e = at_placed row (n + 1) xs at x is k (omega (arith, e))

pub standing_placed : {X : Type 0} (row : ℕ → X → Columns) (n : ℕ) (xs : List (Option X)) → standing (placed row n xs) ≡ present row n xs
standing_placed row n [] = refl
standing_placed row n (None ∷ xs) = standing_placed row (n + 1) xs
standing_placed row n (Some x ∷ xs) = ap (λ l. row n x ∷ l) (standing_placed row (n + 1) xs)

pub present_all : {X : Type 0} (row : ℕ → X → Columns) (n : ℕ) (xs : List X) → present row n (map Some xs) ≡ numbered row n xs
present_all row n [] = refl
present_all row n (x ∷ xs) = ap (λ l. row n x ∷ l) (present_all row (n + 1) xs)

-- ---- places that all hold something
module _ {X : Type 0} (row : ℕ → X → Columns) (xs : List X) where
  pub length_all : length (placed row 0 (map Some xs)) ≡ length xs
  length_all = length_placed row 0 (map Some xs) ∙ length_places (λ x. x) xs

  pub has_all : (at : ℕ) → at < length (placed row 0 (map Some xs)) → true ≡ is_some (slice_index_or (placed row 0 (map Some xs)) at None)
  has_all at low =
      let within : at < length (map Some xs) = omega (arith, low, length_placed row 0 (map Some xs)) in
      has_place (λ x. x) xs at within ∙ some_placed row 0 (map Some xs) at

  -- a row is that of a place, where it is that of the element there
  pub decides_all : (test : Bool) (at : ℕ) (d : X) (r : Columns) → at < length (placed row 0 (map Some xs)) → IsTrue test ↔ (r ≡ row at (get_or xs at d))
      → IsTrue test ↔ (slice_index_or (placed row 0 (map Some xs)) at None ≡ Some r)
  decides_all test at d r low tells =
      let x = get_or xs at d in
      let within : at < length xs = omega (arith, low, length_all) in
      decides test _ r (row at x) tells (at_placed row 0 (map Some xs) at x (place_is (λ x. x) xs at d within) at (omega arith))

  pub standing_each : standing (placed row 0 (map Some xs)) ≡ numbered row 0 xs
  standing_each = standing_placed row 0 (map Some xs) ∙ present_all row 0 xs

-- ---- rows with the numbers of their places
module _ {X : Type 0} (rest : ℕ → X → Columns) where
  abbrev placed_row : ℕ → X → Columns
  placed_row n x = number n ∷ rest n x

  all_later : (m n : ℕ) (b : Columns) (xs : List (Option X)) → m < n → AllByRecursion (λ r. row_cmp Customer (number m ∷ b) r ≡ Less) (present placed_row n xs)
  all_later m n b [] low = tt
  all_later m n b (None ∷ xs) low = all_later m (n + 1) b xs (omega (arith, low))
  all_later m n b (Some x ∷ xs) low = (before m n b (rest n x) low, all_later m (n + 1) b xs (omega (arith, low)))

  pub rise_present : (n : ℕ) (xs : List (Option X)) → IsStrictlySortedBy (row_cmp Customer) (present placed_row n xs)
  unfolding IsStrictlySortedBy
  rise_present n [] = tt
  rise_present n (None ∷ xs) = rise_present (n + 1) xs
  rise_present n (Some x ∷ xs) = (all_later n (n + 1) (rest n x) xs (omega arith), rise_present (n + 1) xs)

  pub rise_numbered : (xs : List X) → IsStrictlySortedBy (row_cmp Customer) (numbered placed_row 0 xs)
  rise_numbered xs = subst (IsStrictlySortedBy (row_cmp Customer)) (present_all placed_row 0 xs) (rise_present 0 (map Some xs))

pub one_rises : (row : Columns) → IsStrictlySortedBy (row_cmp Customer) (row ∷ [])
unfolding IsStrictlySortedBy
one_rises row = (tt, tt)

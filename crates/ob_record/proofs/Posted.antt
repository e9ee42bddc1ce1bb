-- The rows of amounts, once a command has moved some.
use Rattle.std.proofs.Common.{◌≡◌, ◌⊎◌, inl, inr, ℕ, ◌+◌, ◌<◌, ◌≤◌, ◌==◌, ◌&&◌, pos, ℤ, Bool, true, false, List, [], ◌∷◌, ◌++◌, map, filter, refl, sym, ap, ap₂, subst, ◌∙◌, arith, Some, zero, suc, true≢false}
use Rattle.std.proofs.lemmas.Int.{ints}
use Rattle.std.specs.Prelude.{if◌then◌else◌}
use Rattle.std.specs.List.{AllByRecursion, list_any, range_with_len}
use Rattle.std.specs.Int.RustNames.{unsigned_abs}
use Rattle.std.specs.Ordering.{is_eq, int_cmp}
use Rattle.std.proofs.lemmas.Bool.{cases_Bool}
use Rattle.std.proofs.lemmas.Bool.Decides.{nat_tests}
use Rattle.std.proofs.lemmas.List.Elements.{filter-append}
use Rattle.sqlite_trees.proofs.ListLemmas.{filter-map, all-filter, all-append}
use Rattle.sqlite_value.proofs.OrderLemmas.{value_cmp-Int}
use Rattle.sqlite_sql.specs.Ops.{binary, is_true, from_truth}
use Rattle.sqlite_schema.specs.Rules.{equal}
use Rattle.sqlite.specs.Collation.TheVariants.{Binary}
use Rattle.ob_post.specs.Keys.{dim_number, keys, IsKey}
use Rattle.ob_post.specs.Moved.{delta_of, is_under, is_nonzero, moves_by}
use Rattle.ob_post.specs.MoveLaws.{change_from, MovesAreOfChange}
use Rattle.ob_post.specs.Postings.{PostedAmounts}
use Rattle.ob_post.specs.declared.Dim.{Dim}
use Rattle.ob_post.specs.declared.Dim.TheVariants.{Cause, Feeder, Day}
use Rattle.ob_post.specs.declared.Moved.{Moved}
use Rattle.ob_post.proofs.Keying.{same_dim}
use Rattle.ob_sql_rows.specs.Rows.{Tables, number, posting_row, is_posting, with_amount, HasPosting}
use Rattle.ob_sql_rows.specs.declared.table.Table.TheVariants as tables
use Rattle.ob_sql_write.specs.Moves.{moved_to, with_move, with_moves, HasRows}
use Rattle.ob_sql_write.specs.Amounts.{all_keys, amount_row}

truth_is : (b : Bool) → is_true (from_truth (Some b)) ≡ b
truth_is true = refl
truth_is false = refl

same_pos : (m n : ℕ) → is_eq (int_cmp (pos m) (pos n)) ≡ (m == n)
same_pos m n = grind (arith, nat_tests)

equal_numbers : (m n : ℕ) → equal Binary (number m) (number n) ≡ (m == n)
unfolding binary
equal_numbers m n = truth_is _ ∙ ap is_eq (value_cmp-Int (pos m) (pos n)) ∙ same_pos m n

-- the key is that one
abbrev pub is_at : ℕ → ℕ → Dim × ℕ → Bool
is_at d k p = dim_number p.0 == d && (p.1 == k && true)

test_is : (f : Dim → ℕ → ℕ) (d k : ℕ) (p : Dim × ℕ) → is_posting d k (amount_row f p) ≡ is_at d k p
test_is f d k p = rw (equal_numbers (dim_number p.0) d, equal_numbers p.1 k)

-- one amount stands anew
abbrev put : (Dim → ℕ → ℕ) → ℕ → ℕ → ℕ → Dim → ℕ → ℕ
put f d k a dim key = if is_at d k (dim, key) then a else f dim key

at_parts : (d k : ℕ) (p : Dim × ℕ) → is_at d k p ≡ true → (dim_number p.0 ≡ d) × (p.1 ≡ k)
at_parts d k p h = (grind (arith, nat_tests), grind (arith, nat_tests))

put_row : (f : Dim → ℕ → ℕ) (d k a : ℕ) (p : Dim × ℕ)
    → (if is_posting d k (amount_row f p) then posting_row d k a else amount_row f p) ≡ amount_row (put f d k a) p
put_row f d k a p = elim (cases_Bool (is_at d k p)) [
  | inl here ↦ let e = at_parts d k p here in rw (test_is f d k p, here, e.0, e.1)
  | inr there ↦ rw (test_is f d k p, there)
]

put_rows : (f : Dim → ℕ → ℕ) (d k a : ℕ) (ks : List (Dim × ℕ))
    → with_amount d k a (map (amount_row f) ks) ≡ map (amount_row (put f d k a)) ks
put_rows f d k a [] = refl
put_rows f d k a (p ∷ ks) = ap₂ (λ x l. x ∷ l) (put_row f d k a p) (put_rows f d k a ks)

module _ (id : ℕ) (posted : PostedAmounts) (ks : List (Dim × ℕ)) where
  -- the amounts with the one that a row moves
  abbrev put_one : (Dim → ℕ → ℕ) → Moved → Dim → ℕ → ℕ
  put_one f m = put f (dim_number m.dim) m.key (unsigned_abs (moved_to posted m))

  abbrev pub put_all : (Dim → ℕ → ℕ) → List Moved → Dim → ℕ → ℕ
  put_all f [] = f
  put_all f (m ∷ ms) = put_all (put_one f m) ms

  row_after : (m : Moved) (f : Dim → ℕ → ℕ) (t : Tables) → t tables.Posting ≡ map (amount_row f) ks
      → with_move id posted m t tables.Posting ≡ map (amount_row (put_one f m)) ks
  row_after m f t is =
      let value = unsigned_abs (moved_to posted m) in
      ap (with_amount (dim_number m.dim) m.key value) is ∙ put_rows f (dim_number m.dim) m.key value ks

  pub rows_after : (ms : List Moved) (f : Dim → ℕ → ℕ) (t : Tables) → t tables.Posting ≡ map (amount_row f) ks
      → with_moves id posted ms t tables.Posting ≡ map (amount_row (put_all f ms)) ks
  rows_after [] f t is = is
  rows_after (m ∷ ms) f t is = rows_after ms (put_one f m) (with_move id posted m t) (row_after m f t is)

  -- the key of the row stands once
  abbrev pub IsOnce : Moved → Type 0
  IsOnce m = filter (is_at (dim_number m.dim) m.key) ks ≡ (m.dim, m.key) ∷ []

  same_tests : (f : Dim → ℕ → ℕ) (d k : ℕ) (xs : List (Dim × ℕ))
      → filter (λ p. is_posting d k (amount_row f p)) xs ≡ filter (is_at d k) xs
  same_tests f d k [] = refl
  same_tests f d k (p ∷ xs) = rw (test_is f d k p, same_tests f d k xs)

  row_there : (m : Moved) (f : Dim → ℕ → ℕ) (t : Tables) → IsOnce m → t tables.Posting ≡ map (amount_row f) ks
      → HasPosting (dim_number m.dim) m.key t
  row_there m f t once is = (
    f m.dim m.key,
    ap (filter (is_posting (dim_number m.dim) m.key)) is ∙ filter-map (is_posting (dim_number m.dim) m.key) (amount_row f) ks
        ∙ ap (map (amount_row f)) (same_tests f (dim_number m.dim) m.key ks ∙ once),
  )

  pub rows_there : (ms : List Moved) (f : Dim → ℕ → ℕ) (t : Tables) → AllByRecursion IsOnce ms → t tables.Posting ≡ map (amount_row f) ks
      → HasRows id posted ms t
  rows_there [] f t once is = tt
  rows_there (m ∷ ms) f t once is =
      (row_there m f t once.0 is, rows_there ms (put_one f m) (with_move id posted m t) once.1 (row_after m f t is))

-- ---- every key stands once

none_below : (a n key : ℕ) → key < a → filter (λ k. k == key && true) (range_with_len a n) ≡ []
none_below a zero key low = refl
none_below a (suc n) key low =
    let is_not : (a == key) ≡ false = grind (arith, nat_tests) in
    rw (is_not, none_below (a + 1) n key (omega (arith, low)))

one_within : (a n key : ℕ) → a ≤ key → key < a + n → filter (λ k. k == key && true) (range_with_len a n) ≡ key ∷ []
one_within a zero key low high = absurd (omega (arith, low, high))
one_within a (suc n) key low high = elim (cases_Bool (a == key)) [
  | inl is_so ↦ let e : a ≡ key = grind (arith, nat_tests) in rw (is_so, none_below (a + 1) n key (omega (arith, e)), e)
  | inr is_not ↦ let e : a + 1 ≤ key = grind (arith, nat_tests) in rw (is_not, one_within (a + 1) n key e (omega (arith, high)))
]

abbrev pairs : Dim → List ℕ → List (Dim × ℕ)
pairs dim xs = map (λ k. (dim, k)) xs

other_dim : (d key : ℕ) (dim : Dim) (xs : List ℕ) → (dim_number dim == d) ≡ false → filter (is_at d key) (pairs dim xs) ≡ []
other_dim d key dim [] is_not = refl
other_dim d key dim (x ∷ xs) is_not = rw (is_not, other_dim d key dim xs is_not)

own_dim : (d key : ℕ) (dim : Dim) (xs : List ℕ) → (dim_number dim == d) ≡ true
    → filter (is_at d key) (pairs dim xs) ≡ pairs dim (filter (λ k. k == key && true) xs)
own_dim d key dim [] is_so = refl
own_dim d key dim (x ∷ xs) is_so = elim (cases_Bool (x == key)) [
  | inl same ↦ rw (is_so, same, own_dim d key dim xs is_so)
  | inr other ↦ rw (is_so, other, own_dim d key dim xs is_so)
]

-- among keys of its dimension that rise by one, a key stands once
own_key : (d : ℕ) (dim : Dim) (a n key : ℕ) → (dim_number dim == d) ≡ true → a ≤ key → key < a + n
    → filter (is_at d key) (pairs dim (range_with_len a n)) ≡ (dim, key) ∷ []
own_key d dim a n key is_so low high =
    own_dim d key dim (range_with_len a n) is_so ∙ ap (pairs dim) (one_within a n key low high)

three : (p : Dim × ℕ → Bool) (xs ys zs us vs ws : List (Dim × ℕ)) → filter p xs ≡ us → filter p ys ≡ vs → filter p zs ≡ ws
    → filter p (xs ++ (ys ++ zs)) ≡ us ++ (vs ++ ws)
three p xs ys zs us vs ws x y z =
    filter-append p xs (ys ++ zs) ∙ ap₂ (λ a b. a ++ b) x (filter-append p ys zs ∙ ap₂ (λ a b. a ++ b) y z)

module _ (days : ℕ) where
  abbrev causes : List (Dim × ℕ)
  causes = pairs Cause (range_with_len 0 64)

  abbrev feeders : List (Dim × ℕ)
  feeders = pairs Feeder (range_with_len 1 255)

  abbrev each_day : List (Dim × ℕ)
  each_day = pairs Day (range_with_len 0 days)

  pub once : (dim : Dim) (key : ℕ) → IsKey days dim key → filter (is_at (dim_number dim) key) (all_keys days) ≡ (dim, key) ∷ []
  unfolding keys
  once Cause key h =
      three (is_at 1 key) causes feeders each_day ((Cause, key) ∷ []) [] [] (own_key 1 Cause 0 64 key refl (omega arith) (omega (arith, h)))
      (other_dim 1 key Feeder (range_with_len 1 255) refl) (other_dim 1 key Day (range_with_len 0 days) refl)
  once Feeder key h =
      three (is_at 2 key) causes feeders each_day [] ((Feeder, key) ∷ []) [] (other_dim 2 key Cause (range_with_len 0 64) refl)
      (own_key 2 Feeder 1 255 key refl h.0 (omega (arith, h.1))) (other_dim 2 key Day (range_with_len 0 days) refl)
  once Day key h =
      three (is_at 3 key) causes feeders each_day [] [] ((Day, key) ∷ []) (other_dim 3 key Cause (range_with_len 0 64) refl)
      (other_dim 3 key Feeder (range_with_len 1 255) refl) (own_key 3 Day 0 days key refl (omega arith) (omega (arith, h)))

  abbrev IsKept : Dim × ℕ → Type 0
  IsKept k = IsKey days k.0 k.1

  all_within : (dim : Dim) (a n : ℕ) → ((k : ℕ) → a ≤ k → k < a + n → IsKey days dim k) → AllByRecursion IsKept (pairs dim (range_with_len a n))
  all_within dim a zero h = tt
  all_within dim a (suc n) h =
      (h a (omega arith) (omega arith), all_within dim (a + 1) n (λ k low high. h k (omega (arith, low)) (omega (arith, high))))

  pub keys_are : AllByRecursion IsKept (all_keys days)
  unfolding keys
  keys_are =
      all-append IsKept causes (feeders ++ each_day) (all_within Cause 0 64 (λ k low high. omega (arith, high)))
      (all-append IsKept feeders each_day (all_within Feeder 1 255 (λ k low high. (low, omega (arith, high))))
      (all_within Day 0 days (λ k low high. omega (arith, high))))

pub same_rows : (f g : Dim → ℕ → ℕ) (ks : List (Dim × ℕ)) → AllByRecursion (λ (p : Dim × ℕ). f p.0 p.1 ≡ g p.0 p.1) ks
    → map (amount_row f) ks ≡ map (amount_row g) ks
same_rows f g [] all = refl
same_rows f g (p ∷ ks) all = ap₂ (λ r l. r ∷ l) (ap (posting_row (dim_number p.0) p.1) all.0) (same_rows f g ks all.1)

pub all_from_both : {X : Type 0} (P Q R : X → Type 0) → ((x : X) → P x → Q x → R x) → (xs : List X)
    → AllByRecursion P xs → AllByRecursion Q xs → AllByRecursion R xs
all_from_both P Q R f [] ps qs = tt
all_from_both P Q R f (x ∷ xs) ps qs = (f x ps.0 qs.0, all_from_both P Q R f xs ps.1 qs.1)

-- ---- what the moves leave

-- some row moves the amount under the key
abbrev moves_key : Dim → ℕ → List Moved → Bool
moves_key dim key = list_any (is_under dim key)

unmoved : (dim : Dim) (key : ℕ) (ms : List Moved) → moves_key dim key ms ≡ false → delta_of ms dim key ≡ pos 0
unmoved dim key [] is_not = refl
unmoved dim key (m ∷ ms) is_not = elim (cases_Bool (is_under dim key m)) [
  | inl is_so ↦ absurd (true≢false (sym (rw is_so) ∙ is_not))
  | inr other ↦ let rest : delta_of ms dim key ≡ pos 0 = unmoved dim key ms (rw other at is_not) in rw (other, rest)
]

module _ (id : ℕ) (posted : PostedAmounts) (ks : List (Dim × ℕ)) (new : Dim → ℕ → ℕ) where
  abbrev LeadsTo : Moved → Type 0
  LeadsTo m = unsigned_abs (moved_to posted m) ≡ new m.dim m.key

  pub ends_new : (dim : Dim) (key : ℕ) (ms : List Moved) (f : Dim → ℕ → ℕ) → AllByRecursion LeadsTo ms
      → (f dim key ≡ new dim key) ⊎ (moves_key dim key ms ≡ true) → put_all id posted ks f ms dim key ≡ new dim key
  ends_new dim key [] f all (inl e) = e
  ends_new dim key [] f all (inr h) = absurd (true≢false (sym h))
  ends_new dim key (m ∷ ms) f all h =
      let g = put f (dim_number m.dim) m.key (unsigned_abs (moved_to posted m)) in
      ends_new dim key ms g all.1
      (elim (cases_Bool (is_at (dim_number m.dim) m.key (dim, key))) [
        | inl here ↦
            let e = at_parts (dim_number m.dim) m.key (dim, key) here in
            let d : dim ≡ m.dim = same_dim dim m.dim e.0 in
            let value : g dim key ≡ unsigned_abs (moved_to posted m) = rw here in
            inl (value ∙ all.0 ∙ ap₂ new (sym d) (sym e.1))
        | inr there ↦
            let value : g dim key ≡ f dim key = rw there in
            let other : is_under dim key m ≡ false = grind (arith, nat_tests) in
            elim h [ inl e ↦ inl (value ∙ e) | inr some ↦ inr (rw other at some) ]
      ])

module _ (change : Dim → ℕ → ℤ) (days : ℕ) where
  -- the row moves by the change of its key
  abbrev IsOfChange : Moved → Type 0
  IsOfChange m = m.delta ≡ change m.dim m.key

  changes_are : (dim : Dim) (xs : List ℕ)
      → AllByRecursion IsOfChange (map (λ key. record { dim = dim; key = key; delta = change dim key }) xs)
  changes_are dim [] = tt
  changes_are dim (x ∷ xs) = (refl, changes_are dim xs)

  pub moves_are : AllByRecursion IsOfChange (moves_by change days)
  moves_are =
      all-filter IsOfChange (λ (m : Moved). is_nonzero m.delta) _
      (all-append IsOfChange _ _ (all-append IsOfChange _ _ (changes_are Cause (keys days Cause)) (changes_are Feeder (keys days Feeder)))
      (changes_are Day (keys days Day)))

-- a key that no row of the moves moves has the amount that it had
pub moved_or_same : MovesAreOfChange → (old new : Dim → ℕ → ℕ) (days : ℕ) (dim : Dim) (key : ℕ) → IsKey days dim key
    → (ms : List Moved) → ms ≡ moves_by (change_from old new) days → (old dim key ≡ new dim key) ⊎ (moves_key dim key ms ≡ true)
moved_or_same of_change old new days dim key h ms are = elim (cases_Bool (moves_key dim key ms)) [
  | inl is_so ↦ inr is_so
  | inr is_not ↦
      let none = subst (λ l. delta_of l dim key ≡ pos 0) are (unmoved dim key ms is_not) in
      inl (omega (arith, ints, none, of_change (change_from old new) days dim key h))
]

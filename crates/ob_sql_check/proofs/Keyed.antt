-- The keys of amounts, and the rows of the amounts under them.
use Rattle.std.proofs.Common.{◌≡◌, ℕ, zero, suc, ◌+◌, ◌-◌, ◌<◌, pos, List, [], ◌∷◌, ◌++◌, length, map, Some, Less, Equal, refl, sym, ap, subst, ◌∙◌, arith, ap₂, ◌≤◌}
use Rattle.std.specs.Prelude.{slice_get}
use Rattle.std.specs.List.{AllByRecursion, range_with_len}
use Rattle.std.specs.List.Sorted.{IsStrictlySortedBy}
use Rattle.std.specs.Ordering.{nat_cmp}
use Rattle.std.proofs.lemmas.Bool.Decides.{nat_tests}
use Rattle.std.proofs.lemmas.List.{append-nil}
use Rattle.sqlite_value.proofs.OrderLemmas.{value_cmp-Int}
use Rattle.ob_post.specs.Keys.{IsKey, dim_number, keys}
use Rattle.ob_post.specs.declared.Dim.{Dim}
use Rattle.ob_post.specs.declared.Dim.TheVariants.{Cause, Feeder, Day}
use Rattle.ob_sql_rows.specs.Rows.{Columns, number}
use Rattle.ob_sql_rows.specs.declared.table.Table.TheVariants.{Posting}
use Rattle.ob_sql_write.specs.Amounts.{all_keys, amount_row, amount_rows}
use Rattle.ob_sql_read.specs.Parts.{row_cmp}
use Rattle.ob_sql_check.proofs.Rising.{nat_less, same_pos}

abbrev pub Key : Type 0
Key = Dim × ℕ

-- ---- the key at a place
get_left : {X : Type 0} (xs ys : List X) (i : ℕ) (x : X) → slice_get xs i ≡ Some x → slice_get (xs ++ ys) i ≡ Some x
get_left [] ys i x is = absurd cc
get_left (y ∷ xs) ys zero x is = is
get_left (y ∷ xs) ys (suc i) x is = get_left xs ys i x is

get_right : {X : Type 0} (xs ys : List X) (i j : ℕ) → i ≡ length xs + j → slice_get (xs ++ ys) i ≡ slice_get ys j
get_right [] ys i j is = let e : i ≡ j = omega (arith, is) in ap (slice_get ys) e
get_right (x ∷ xs) ys zero j is = absurd (omega (arith, is))
get_right (x ∷ xs) ys (suc i) j is = get_right xs ys i j (omega (arith, is))

get_range : {X : Type 0} (f : ℕ → X) (a n i k : ℕ) → i < n → k ≡ a + i → slice_get (map f (range_with_len a n)) i ≡ Some (f k)
get_range f a zero i k low is = absurd (omega (arith, low))
get_range f a (suc n) zero k low is = let e : a ≡ k = omega (arith, is) in ap (λ m. Some (f m)) e
get_range f a (suc n) (suc i) k low is = get_range f (a + 1) n i k (omega (arith, low)) (omega (arith, is))

length_range : {X : Type 0} (f : ℕ → X) (a n : ℕ) → length (map f (range_with_len a n)) ≡ n
length_range f a zero = refl
length_range f a (suc n) = ap suc (length_range f (a + 1) n)

length_append : {X : Type 0} (xs ys : List X) → length (xs ++ ys) ≡ length xs + length ys
length_append [] ys = omega arith
length_append (x ∷ xs) ys = omega (arith, length_append xs ys)

abbrev causes : List Key
causes = map (λ key. (Cause, key)) (range_with_len 0 64)

abbrev feeders : List Key
feeders = map (λ key. (Feeder, key)) (range_with_len 1 255)

abbrev days_of : ℕ → List Key
days_of days = map (λ key. (Day, key)) (range_with_len 0 days)

keys_are : (days : ℕ) → all_keys days ≡ causes ++ (feeders ++ days_of days)
unfolding keys
keys_are days = refl

pub length_keys : (days : ℕ) → length (all_keys days) ≡ 319 + days
length_keys days =
    omega (
      arith,
      ap length (keys_are days),
      length_append causes (feeders ++ days_of days),
      length_append feeders (days_of days),
      length_range {X = Key} (λ (key : ℕ). (Cause, key)) 0 64,
      length_range {X = Key} (λ (key : ℕ). (Feeder, key)) 1 255,
      length_range {X = Key} (λ (key : ℕ). (Day, key)) 0 days,
    )

pub cause_key : (days at : ℕ) → at < 64 → slice_get (all_keys days) at ≡ Some (Cause, at)
cause_key days at low =
    ap (λ (l : List Key). slice_get l at) (keys_are days) ∙ get_left causes (feeders ++ days_of days) at (Cause, at) (get_range {X = Key} (λ (key : ℕ). (Cause, key)) 0 64 at at low (omega arith))

pub feeder_key : (days at key : ℕ) → at < 319 → at + 1 ≡ 64 + key → 0 < key → slice_get (all_keys days) at ≡ Some (Feeder, key)
feeder_key days at key low is some =
    ap (λ (l : List Key). slice_get l at) (keys_are days)
    ∙ get_right causes (feeders ++ days_of days) at (key - 1) (omega (arith, length_range {X = Key} (λ (key : ℕ). (Cause, key)) 0 64, is, some))
    ∙ get_left feeders (days_of days) (key - 1) (Feeder, key) (get_range {X = Key} (λ (key : ℕ). (Feeder, key)) 1 255 (key - 1) key (omega (arith, low, is, some)) (omega (arith, some)))

pub day_key : (days at key : ℕ) → at ≡ 319 + key → key < days → slice_get (all_keys days) at ≡ Some (Day, key)
day_key days at key is low =
    ap (λ (l : List Key). slice_get l at) (keys_are days)
    ∙ get_right causes (feeders ++ days_of days) at (255 + key) (omega (arith, length_range {X = Key} (λ (key : ℕ). (Cause, key)) 0 64, is))
    ∙ get_right feeders (days_of days) (255 + key) key (omega (arith, length_range {X = Key} (λ (key : ℕ). (Feeder, key)) 1 255))
    ∙ get_range {X = Key} (λ (key : ℕ). (Day, key)) 0 days key key low (omega arith)

-- ---- their rows rise
nat_same : (n : ℕ) → nat_cmp n n ≡ Equal
nat_same n = grind (arith, nat_tests)

before_dim : (d e k l : ℕ) (a b : Columns) → d < e → row_cmp Posting (number d ∷ number k ∷ a) (number e ∷ number l ∷ b) ≡ Less
before_dim d e k l a b h = rw (value_cmp-Int (pos d) (pos e), same_pos d e, nat_less d e h)

before_key : (d k l : ℕ) (a b : Columns) → k < l → row_cmp Posting (number d ∷ number k ∷ a) (number d ∷ number l ∷ b) ≡ Less
before_key d k l a b h = rw (value_cmp-Int (pos d) (pos d), same_pos d d, nat_same d, value_cmp-Int (pos k) (pos l), same_pos k l, nat_less k l h)

module _ (amount : Dim → ℕ → ℕ) where
  abbrev Above : Key → List Key → Type 0
  Above k ks = AllByRecursion (λ r. row_cmp Posting (amount_row amount k) r ≡ Less) (map (amount_row amount) ks)

  abbrev Rises : List Key → Type 0
  Rises ks = IsStrictlySortedBy (row_cmp Posting) (map (amount_row amount) ks)

  above_later : (k : Key) (rest : List Key) → AllByRecursion (λ (l : Key). dim_number k.0 < dim_number l.0) rest → Above k rest
  above_later k [] all = tt
  above_later k (l ∷ rest) all = (before_dim (dim_number k.0) (dim_number l.0) k.1 l.1 (number (amount k.0 k.1) ∷ []) (number (amount l.0 l.1) ∷ []) all.0, above_later k rest all.1)

  above_range : (d : Dim) (m a n : ℕ) (rest : List Key) → m < a → AllByRecursion (λ (l : Key). dim_number d < dim_number l.0) rest
      → Above (d, m) (map (λ key. (d, key)) (range_with_len a n) ++ rest)
  above_range d m a zero rest low all = above_later (d, m) rest all
  above_range d m a (suc n) rest low all = (before_key (dim_number d) m a (number (amount d m) ∷ []) (number (amount d a) ∷ []) low, above_range d m (a + 1) n rest (omega (arith, low)) all)

  rise_range : (d : Dim) (a n : ℕ) (rest : List Key) → AllByRecursion (λ (l : Key). dim_number d < dim_number l.0) rest → Rises rest
      → Rises (map (λ key. (d, key)) (range_with_len a n) ++ rest)
  unfolding IsStrictlySortedBy
  rise_range d a zero rest all up = up
  rise_range d a (suc n) rest all up = (above_range d a (a + 1) n rest (omega arith) all, rise_range d (a + 1) n rest all up)

  later : (d e : Dim) (a n : ℕ) (rest : List Key) → dim_number d < dim_number e → AllByRecursion (λ (l : Key). dim_number d < dim_number l.0) rest
      → AllByRecursion (λ (l : Key). dim_number d < dim_number l.0) (map (λ key. (e, key)) (range_with_len a n) ++ rest)
  later d e a zero rest low all = all
  later d e a (suc n) rest low all = (low, later d e (a + 1) n rest low all)

  pub amounts_rise : (days : ℕ) → Rises (all_keys days)
  unfolding IsStrictlySortedBy
  amounts_rise days =
      let no_more : days_of days ++ [] ≡ days_of days = append-nil (days_of days) in
      let up_days : Rises (days_of days) = subst Rises no_more (rise_range Day 0 days [] tt tt) in
      let after_feeders : AllByRecursion (λ (l : Key). 2 < dim_number l.0) (days_of days) =
      subst (AllByRecursion (λ (l : Key). 2 < dim_number l.0)) no_more (later Feeder Day 0 days [] (omega arith) tt) in
      let after_causes : AllByRecursion (λ (l : Key). 1 < dim_number l.0) (days_of days) =
      subst (AllByRecursion (λ (l : Key). 1 < dim_number l.0)) no_more (later Cause Day 0 days [] (omega arith) tt) in
      subst Rises (sym (keys_are days))
      (rise_range Cause 0 64 (feeders ++ days_of days) (later Cause Feeder 1 255 (days_of days) (omega arith) after_causes)
      (rise_range Feeder 1 255 (days_of days) after_feeders up_days))

pub amount_columns : (amount : Dim → ℕ → ℕ) (key : Key) (d k a : ℕ) → d ≡ dim_number key.0 → k ≡ key.1 → a ≡ amount key.0 key.1
    → ◌≡◌ {A = Columns} (number d ∷ number k ∷ number a ∷ []) (amount_row amount key)
amount_columns amount key d k a d_is k_is a_is = rw (d_is, k_is, a_is)

module _ (f h : Dim → ℕ → ℕ) where
  same_here : (d : Dim) (a n : ℕ) → ((key : ℕ) → a ≤ key → key < a + n → f d key ≡ h d key)
      → map (amount_row f) (map (λ key. (d, key)) (range_with_len a n)) ≡ map (amount_row h) (map (λ key. (d, key)) (range_with_len a n))
  same_here d a zero same = refl
  same_here d a (suc n) same =
      ap₂ (λ (k : ℕ) (l : List Columns). (number (dim_number d) ∷ number a ∷ number k ∷ []) ∷ l) (same a (omega arith) (omega arith))
      (same_here d (a + 1) n (λ key low high. same key (omega (arith, low)) (omega (arith, high))))

  -- amounts that agree under each key have the same rows
  pub same_rows : (days : ℕ) → ((d : Dim) (key : ℕ) → IsKey days d key → f d key ≡ h d key) → amount_rows days f ≡ amount_rows days h
  same_rows days same =
      ap (map (amount_row f)) (keys_are days)
      ∙ map-append (amount_row f) causes (feeders ++ days_of days)
      ∙ ap₂ (λ k l. k ++ l) (same_here Cause 0 64 (λ key low high. same Cause key (omega (arith, high))))
      (map-append (amount_row f) feeders (days_of days)
      ∙ ap₂ (λ k l. k ++ l) (same_here Feeder 1 255 (λ key low high. same Feeder key (low, omega (arith, high)))) (same_here Day 0 days (λ key low high. same Day key (omega (arith, high))))
      ∙ sym (map-append (amount_row h) feeders (days_of days)))
      ∙ sym (map-append (amount_row h) causes (feeders ++ days_of days))
      ∙ sym (ap (map (amount_row h)) (keys_are days))
    where
      map-append : {X Y : Type 0} (m : X → Y) (xs ys : List X) → map m (xs ++ ys) ≡ map m xs ++ map m ys
      map-append m [] ys = refl
      map-append m (x ∷ xs) ys = ap (λ l. m x ∷ l) (map-append m xs ys)

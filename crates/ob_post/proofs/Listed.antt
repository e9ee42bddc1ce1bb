-- Rows in order, with no zero, are fixed by what they move.
use Rattle.std.proofs.Common.{◌≡◌, ◌≢◌, ◌∙◌, sym, ap, ap₂, subst, refl, ℕ, zero, suc, ◌+◌, ◌<◌, ◌==◌, Bool, true, false, cond, List, [], ◌∷◌, ◌++◌, map, get_or, ℤ, pos, negsuc, ◌+ℤ◌, ◌⊎◌, inl, inr, arith}
use Rattle.std.specs.List.{All, filter, range_with_len}
use Rattle.std.proofs.lemmas.Bool.{cases_Bool, cases_order, and_left, ne_eqb, true≢false}
use Rattle.std.proofs.lemmas.Int.{ints}
use Rattle.std.proofs.lemmas.List.{get_or-map, length-map}
use Rattle.std.proofs.lemmas.List.Elements.{All-nil, All-cons, All-tail, All-append, All-filter, All-map}
use Rattle.std.proofs.lemmas.List.FromFn.{get_or-map-range_with_len, length-map-range_with_len}
use Rattle.std.proofs.lemmas.List.Kept.{AllPairs-cons, AllPairs-filter}
use Rattle.ob_post.specs.declared.Dim.{Dim}
use Rattle.ob_post.specs.declared.Dim.TheVariants.{Cause, Feeder, Day}
use Rattle.ob_post.specs.declared.Moved.{Moved}
use Rattle.ob_post.specs.Keys.{dim_number, IsKey, keys}
use Rattle.ob_post.specs.Moved.{is_under, delta_of, HaveKeys, IsBefore, AreInOrder, HaveNoZero, is_nonzero, changes_under, moves_by}
use Rattle.ob_post.proofs.Keying.{same_dim, keys_exist, key_among}
use Rattle.ob_post.proofs.Deltas.{delta_under, delta_of-append, delta_of_none, after_under, only_once, tail_in_order}
use Rattle.ob_post.proofs.DifferingRows.{cases_key, difference, none_of_others}

-- ---- two lists that move alike are one
-- of two rows one is before the other, or both have one key
cases_row : (m n : Moved) → IsBefore m n ⊎ (IsBefore n m ⊎ ((m.dim ≡ n.dim) × (m.key ≡ n.key)))
cases_row m n = elim (cases_order (dim_number m.dim) (dim_number n.dim)) [
  | inl same ↦
      elim (cases_order m.key n.key) [
        | inl key ↦ inr (inr (same_dim m.dim n.dim same, key))
        | inr (inl less) ↦ inl (inr (same_dim m.dim n.dim same, less))
        | inr (inr more) ↦ inr (inl (inr (same_dim n.dim m.dim (sym same), more)))
      ]
  | inr (inl less) ↦ inl (inl less)
  | inr (inr more) ↦ inr (inl (inl more))
]

-- a row before another is before those after that one
before_both : (l m n : Moved) → IsBefore l m → IsBefore m n → IsBefore l n
before_both l m n (inl a) (inl b) = inl (omega arith)
before_both l m n (inl a) (inr b) = inl (omega (arith, ap dim_number b.0))
before_both l m n (inr a) (inl b) = inl (omega (arith, ap dim_number a.0))
before_both l m n (inr a) (inr b) = inr (a.0 ∙ b.0, omega (arith, a.1, b.1))

-- a row that is before all others moves its amount alone
nothing_at : (m n : Moved) (ns : List Moved) → AreInOrder (n ∷ ns) → IsBefore m n → delta_of (n ∷ ns) m.dim m.key ≡ pos 0
nothing_at m n ns order l =
    delta_of_none (n ∷ ns) m.dim m.key
    (All-cons (λ k. is_under m.dim m.key k ≡ false) n ns (after_under m n l)
    (λ i d k. after_under m (get_or ns i d) (before_both m n (get_or ns i d) l (order 0 (suc i) d (omega arith) (omega arith)))))

pub same_moves : (ms ns : List Moved) → AreInOrder ms → AreInOrder ns → HaveNoZero ms → HaveNoZero ns → ((dim : Dim) (key : ℕ) → delta_of ms dim key ≡ delta_of ns dim key) → ms ≡ ns
same_moves [] [] om on zm zn h = refl
same_moves [] (n ∷ ns) om on zm zn h = absurd (zn 0 n (omega arith) (sym (only_once (n ∷ ns) 0 n on (omega arith)) ∙ sym (h n.dim n.key)))
same_moves (m ∷ ms) [] om on zm zn h = absurd (zm 0 m (omega arith) (sym (only_once (m ∷ ms) 0 m om (omega arith)) ∙ h m.dim m.key))
same_moves (m ∷ ms) (n ∷ ns) om on zm zn h = elim (cases_row m n) [
  | inl less ↦ absurd (zm 0 m (omega arith) (sym (only_once (m ∷ ms) 0 m om (omega arith)) ∙ h m.dim m.key ∙ nothing_at m n ns on less))
  | inr (inl more) ↦ absurd (zn 0 n (omega arith) (sym (only_once (n ∷ ns) 0 n on (omega arith)) ∙ sym (h n.dim n.key) ∙ nothing_at n m ms om more))
  | inr (inr one) ↦
      let delta : m.delta ≡ n.delta =
      sym (only_once (m ∷ ms) 0 m om (omega arith)) ∙ h m.dim m.key ∙ ap₂ (delta_of (n ∷ ns)) one.0 one.1 ∙ only_once (n ∷ ns) 0 n on (omega arith) in
      let first : m ≡ n = same_row m n one.0 one.1 delta in
      let rest : ms ≡ ns = same_moves ms ns (tail_in_order m ms om) (tail_in_order n ns on) (All-tail (λ k. k.delta ≢ pos 0) m ms zm) (All-tail (λ k. k.delta ≢ pos 0) n ns zn)
      (λ dim key.
      let part : delta_under dim key m ≡ delta_under dim key n = ap (delta_under dim key) first in
      omega (arith, ints, h dim key, part)) in
      ap₂ (λ (k : Moved) (ks : List Moved). k ∷ ks) first rest
]
  where
    same_row : (a b : Moved) → a.dim ≡ b.dim → a.key ≡ b.key → a.delta ≡ b.delta → a ≡ b
    same_row a b d k z = λ i. record { dim = d i; key = k i; delta = z i }

-- ---- the rows of all changes
zero_is : (z : ℤ) → is_nonzero z ≡ false → z ≡ pos 0
zero_is (pos zero) h = refl
zero_is (pos (suc n)) h = absurd (true≢false h)
zero_is (negsuc n) h = absurd (true≢false h)

nonzero_is : (z : ℤ) → is_nonzero z ≡ true → z ≢ pos 0
nonzero_is z h = λ e. true≢false (sym h ∙ ap is_nonzero e)

filter_no_zero : (ms : List Moved) → HaveNoZero (filter (λ m. is_nonzero m.delta) ms)
filter_no_zero [] = All-nil (λ m. m.delta ≢ pos 0)
filter_no_zero (m ∷ ms) = elim (cases_Bool (is_nonzero m.delta)) [
  | inl t ↦ rw t (All-cons (λ k. k.delta ≢ pos 0) m (filter (λ k. is_nonzero k.delta) ms) (nonzero_is m.delta t) (filter_no_zero ms))
  | inr f ↦ rw f (filter_no_zero ms)
]

cond_zero : (b : Bool) (z : ℤ) → z ≡ pos 0 → cond b z (pos 0) ≡ pos 0
cond_zero true z h = h
cond_zero false z h = refl

delta_of-filter : (ms : List Moved) (dim : Dim) (key : ℕ) → delta_of (filter (λ m. is_nonzero m.delta) ms) dim key ≡ delta_of ms dim key
delta_of-filter [] dim key = refl
delta_of-filter (m ∷ ms) dim key = elim (cases_Bool (is_nonzero m.delta)) [
  | inl t ↦ rw t (omega (arith, ints, delta_of-filter ms dim key))
  | inr f ↦
      let none : delta_under dim key m ≡ pos 0 = cond_zero (is_under dim key m) m.delta (zero_is m.delta f) in
      rw f (omega (arith, ints, delta_of-filter ms dim key, none))
]

append_in_order : (ms ns : List Moved) → AreInOrder ms → AreInOrder ns → All (λ m. All (IsBefore m) ns) ms → AreInOrder (ms ++ ns)
append_in_order [] ns om on h = on
append_in_order (m ∷ ms) ns om on h =
    AllPairs-cons IsBefore m (ms ++ ns)
    (All-append (IsBefore m) ms ns (λ i d l. om 0 (suc i) d (omega arith) (omega arith)) (h 0 m (omega arith)))
    (append_in_order ms ns (tail_in_order m ms om) on (All-tail (λ k. All (IsBefore k) ns) m ms h))

range_in_order : (f : ℕ → ℤ) (dim : Dim) (a n : ℕ) → AreInOrder (map (λ key. record { dim = dim; key = key; delta = f key }) (range_with_len a n))
range_in_order f dim a n = λ i j d l k.
    let row : ℕ → Moved = λ key. record { dim = dim; key = key; delta = f key } in
    let within : j < n = omega (arith, k, length-map-range_with_len row a n) in
    let first : get_or (map row (range_with_len a n)) i d ≡ row (a + i) = get_or-map-range_with_len row a n i (a + i) d (omega arith) refl in
    let second : get_or (map row (range_with_len a n)) j d ≡ row (a + j) = get_or-map-range_with_len row a n j (a + j) d within refl in
    subst (λ (m : Moved). IsBefore m (get_or (map row (range_with_len a n)) j d)) (sym first)
    (subst (λ (m : Moved). IsBefore (row (a + i)) m) (sym second) (inr (refl, omega arith)))

under_in_order : (change : Dim → ℕ → ℤ) (days : ℕ) (dim : Dim) → AreInOrder (changes_under change days dim)
unfolding keys
under_in_order change days Cause = range_in_order (change Cause) Cause 0 64
under_in_order change days Feeder = range_in_order (change Feeder) Feeder 1 255
under_in_order change days Day = range_in_order (change Day) Day 0 days

under_dim : (change : Dim → ℕ → ℤ) (days : ℕ) (dim : Dim) → All (λ m. m.dim ≡ dim) (changes_under change days dim)
under_dim change days dim = All-map (λ m. m.dim ≡ dim) (λ key. record { dim = dim; key = key; delta = change dim key }) (keys days dim) (λ i d l. refl)

under_keys : (change : Dim → ℕ → ℤ) (days : ℕ) (dim : Dim) → HaveKeys days (changes_under change days dim)
under_keys change days dim =
    All-map (λ m. IsKey days m.dim m.key) (λ key. record { dim = dim; key = key; delta = change dim key }) (keys days dim) (keys_exist days dim)

before_by_dim : (d e : Dim) (ms ns : List Moved) → dim_number d < dim_number e → All (λ m. m.dim ≡ d) ms → All (λ n. n.dim ≡ e) ns → All (λ m. All (IsBefore m) ns) ms
before_by_dim d e ms ns l hm hn = λ i k n j c o. inl (omega (arith, ap dim_number (hm i k n), ap dim_number (hn j c o), l))

all_in_order : (change : Dim → ℕ → ℤ) (days : ℕ) → AreInOrder (changes_under change days Cause ++ changes_under change days Feeder ++ changes_under change days Day)
all_in_order change days =
    append_in_order (changes_under change days Cause ++ changes_under change days Feeder) (changes_under change days Day)
    (append_in_order (changes_under change days Cause) (changes_under change days Feeder) (under_in_order change days Cause) (under_in_order change days Feeder)
    (before_by_dim Cause Feeder (changes_under change days Cause) (changes_under change days Feeder) (omega arith) (under_dim change days Cause) (under_dim change days Feeder)))
    (under_in_order change days Day)
    (All-append (λ m. All (IsBefore m) (changes_under change days Day)) (changes_under change days Cause) (changes_under change days Feeder)
    (before_by_dim Cause Day (changes_under change days Cause) (changes_under change days Day) (omega arith) (under_dim change days Cause) (under_dim change days Day))
    (before_by_dim Feeder Day (changes_under change days Feeder) (changes_under change days Day) (omega arith) (under_dim change days Feeder) (under_dim change days Day)))

-- under its own dimension a key moves by its change, under another one by nothing
under_own : (change : Dim → ℕ → ℤ) (days : ℕ) (dim : Dim) (key : ℕ) → IsKey days dim key → delta_of (changes_under change days dim) dim key ≡ change dim key
under_own change days dim key h =
    let row : ℕ → Moved = λ k. record { dim = dim; key = k; delta = change dim k } in
    let found = key_among days dim key h in
    let at : get_or (changes_under change days dim) found.0 (row key) ≡ row key = get_or-map row (keys days dim) found.0 key (row key) found.1 ∙ ap row found.2 in
    subst (λ (m : Moved). delta_of (changes_under change days dim) m.dim m.key ≡ m.delta) at
    (only_once (changes_under change days dim) found.0 (row key) (under_in_order change days dim) (omega (arith, found.1, length-map (keys days dim) row)))

under_other : (change : Dim → ℕ → ℤ) (days : ℕ) (d e : Dim) (key : ℕ) → (dim_number d ≡ dim_number e → ⊥) → delta_of (changes_under change days d) e key ≡ pos 0
under_other change days d e key apart =
    delta_of_none (changes_under change days d) e key
    (λ i k l.
    let m = get_or (changes_under change days d) i k in
    and_left (dim_number m.dim == dim_number e) (m.key == key) (ne_eqb (dim_number m.dim) (dim_number e) (λ same. apart (sym (ap dim_number (under_dim change days d i k l)) ∙ same))))

delta_of_all : (change : Dim → ℕ → ℤ) (days : ℕ) (dim : Dim) (key : ℕ)
    → delta_of (changes_under change days Cause ++ changes_under change days Feeder ++ changes_under change days Day) dim key
    ≡ (delta_of (changes_under change days Cause) dim key +ℤ delta_of (changes_under change days Feeder) dim key) +ℤ delta_of (changes_under change days Day) dim key
delta_of_all change days dim key =
    delta_of-append (changes_under change days Cause ++ changes_under change days Feeder) (changes_under change days Day) dim key
    ∙ ap (λ (z : ℤ). z +ℤ delta_of (changes_under change days Day) dim key) (delta_of-append (changes_under change days Cause) (changes_under change days Feeder) dim key)

by_change : (change : Dim → ℕ → ℤ) (days : ℕ) (dim : Dim) (key : ℕ) → IsKey days dim key
    → delta_of (changes_under change days Cause ++ changes_under change days Feeder ++ changes_under change days Day) dim key ≡ change dim key
by_change change days Cause key h =
    omega
    (arith, ints, delta_of_all change days Cause key, under_own change days Cause key h, under_other change days Feeder Cause key (λ e. omega arith), under_other change days Day Cause key (λ e. omega arith))
by_change change days Feeder key h =
    omega
    (arith, ints, delta_of_all change days Feeder key, under_own change days Feeder key h, under_other change days Cause Feeder key (λ e. omega arith), under_other change days Day Feeder key (λ e. omega arith))
by_change change days Day key h =
    omega
    (arith, ints, delta_of_all change days Day key, under_own change days Day key h, under_other change days Cause Day key (λ e. omega arith), under_other change days Feeder Day key (λ e. omega arith))

abbrev all_changes : (Dim → ℕ → ℤ) → ℕ → List Moved
all_changes change days = changes_under change days Cause ++ changes_under change days Feeder ++ changes_under change days Day

all_keyed : (change : Dim → ℕ → ℤ) (days : ℕ) → HaveKeys days (all_changes change days)
all_keyed change days =
    All-append (λ m. IsKey days m.dim m.key) (changes_under change days Cause ++ changes_under change days Feeder) (changes_under change days Day)
    (All-append (λ m. IsKey days m.dim m.key) (changes_under change days Cause) (changes_under change days Feeder) (under_keys change days Cause) (under_keys change days Feeder))
    (under_keys change days Day)

-- the moves by a change move each amount that is kept by its change
pub delta_of-moves_by : (change : Dim → ℕ → ℤ) (days : ℕ) (dim : Dim) (key : ℕ) → IsKey days dim key → delta_of (moves_by change days) dim key ≡ change dim key
delta_of-moves_by change days dim key k = delta_of-filter (all_changes change days) dim key ∙ by_change change days dim key k

pub keys_of_moves_by : (change : Dim → ℕ → ℤ) (days : ℕ) → HaveKeys days (moves_by change days)
keys_of_moves_by change days = All-filter (λ m. is_nonzero m.delta) (λ m. IsKey days m.dim m.key) (all_changes change days) (all_keyed change days)

-- the moves by a change rise by dimension and then by key
pub order_of_moves_by : (change : Dim → ℕ → ℤ) (days : ℕ) → AreInOrder (moves_by change days)
order_of_moves_by change days = AllPairs-filter IsBefore (λ m. is_nonzero m.delta) (all_changes change days) (all_in_order change days)

-- the rows that move by the differences of two lists are those of the changes that these are
pub listed : (taken given moved : List Moved) (days : ℕ) (change : Dim → ℕ → ℤ) → AreInOrder moved → HaveNoZero moved → ((dim : Dim) (key : ℕ) → delta_of moved dim key ≡ difference taken given dim key) → HaveKeys days taken → HaveKeys days given
    → ((dim : Dim) (key : ℕ) → IsKey days dim key → difference taken given dim key ≡ change dim key) → moved ≡ moves_by change days
listed taken given moved days change order no_zero each ht hg agrees =
    let all : List Moved = all_changes change days in
    same_moves moved (moves_by change days) order (order_of_moves_by change days) no_zero (filter_no_zero all)
    (λ dim key.
    each dim key
    ∙ elim (cases_key days dim key) [
      | inl k ↦ agrees dim key k ∙ sym (delta_of-moves_by change days dim key k)
      | inr no_key ↦
          let none = none_of_others days all dim key (all_keyed change days) no_key in
          let filtered = delta_of-filter all dim key in
          omega (arith, ints, none, filtered, none_of_others days taken dim key ht no_key, none_of_others days given dim key hg no_key)
    ])

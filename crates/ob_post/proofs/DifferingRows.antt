-- The differences of two lists of amounts, place by place.
use Rattle.std.proofs.Common.{◌≡◌, ◌≢◌, ◌∙◌, sym, ap, ap₂, subst, refl, ℕ, zero, suc, ◌+◌, ◌<◌, ◌≤◌, true, false, List, [], ◌∷◌, ◌++◌, length, take, get_or, set, get_or-set_same, get_or-set_other, ℤ, pos, ◌+ℤ◌, ◌-ℤ◌, neg_ℤ, FitsSigned, ◌⊎◌, inl, inr, arith, rules}
use Rattle.std.specs.Int.{w64, int_wrap}
use Rattle.std.specs.List.{All}
use Rattle.std.proofs.lemmas.Bool.{cases_Bool, both_ways, cases_eq, cases_lt}
use Rattle.std.proofs.lemmas.Int.{ints, int_wrap_fits, int_wrap-add_left, int_wrap-sub_right}
use Rattle.std.proofs.lemmas.List.{length-set}
use Rattle.std.proofs.lemmas.List.Elements.{All-push}
use Rattle.std.proofs.lemmas.List.Quantifiers.{all_pairs_push}
use Rattle.ob_post.specs.declared.Dim.{Dim}
use Rattle.ob_post.specs.declared.Dim.TheVariants.{Cause, Feeder, Day}
use Rattle.ob_post.specs.declared.Moved.{Moved}
use Rattle.ob_post.specs.Keys.{dim_number, IsKey}
use Rattle.ob_post.specs.Moved.{is_under, delta_of, HaveKeys, IsBefore, AreInOrder, HaveNoZero}
use Rattle.ob_post.specs.Places.{place_of}
use Rattle.ob_post.proofs.Keying.{place_below, same_place}
use Rattle.ob_post.proofs.Deltas.{delta_under, delta_of_more, delta_of_push, delta_of_none, under_is, is_under_of, other_under, only_once}

-- a dimension has a key or not
pub cases_key : (days : ℕ) (dim : Dim) (key : ℕ) → IsKey days dim key ⊎ (IsKey days dim key → ⊥)
cases_key days Cause key = elim (cases_lt key 64) [ inl l ↦ inl l | inr g ↦ inr (λ h. omega arith) ]
cases_key days Feeder zero = inr (λ h. omega (arith, h.0))
cases_key days Feeder (suc key) = elim (cases_lt (suc key) 256) [ inl l ↦ inl (omega arith, l) | inr g ↦ inr (λ h. omega (arith, h.1)) ]
cases_key days Day key = elim (cases_lt key days) [ inl l ↦ inl l | inr g ↦ inr (λ h. omega arith) ]

-- ---- the sums of the rows, by place
-- the sums of the first i rows
pub record AreSums (rows : List Moved) (sums : List ℤ) (i : ℕ) : Type 0 where
  pub long : length sums ≡ 685
  pub each : (dim : Dim) (key : ℕ) → IsKey 366 dim key → get_or sums (place_of dim key) (pos 0) ≡ int_wrap w64 (delta_of (take i rows) dim key)

wrap_zero : int_wrap w64 (pos 0) ≡ pos 0
wrap_zero = int_wrap_fits w64 (pos 0) (search rules)

pub no_sums : (rows : List Moved) (sums : List ℤ) → length sums ≡ 685 → All (λ (z : ℤ). z ≡ pos 0) sums → AreSums rows sums 0
no_sums rows sums long zeros = record {
  long = long;
  each = λ dim key k. zeros (place_of dim key) (pos 0) (omega (arith, long, place_below 366 dim key k)) ∙ sym wrap_zero;
}

pub one_sum : (rows : List Moved) (sums : List ℤ) (i : ℕ) (d : Moved) (z : ℤ) → HaveKeys 366 rows → AreSums rows sums i → i < length rows
    → z ≡ int_wrap w64 (get_or sums (place_of (get_or rows i d).dim (get_or rows i d).key) (pos 0) +ℤ (get_or rows i d).delta)
    → AreSums rows (set sums (place_of (get_or rows i d).dim (get_or rows i d).key) z) (i + 1)
one_sum rows sums i d z keys so l e =
    let m = get_or rows i d in
    let place = place_of m.dim m.key in
    let within : place < length sums = omega (arith, so.long, place_below 366 m.dim m.key (keys i d l)) in
    record {
      long = length-set sums place z ∙ so.long;
      each = λ dim key k.
          let more = delta_of_more rows i d dim key l in
          elim (cases_Bool (is_under dim key m)) [
            | inl t ↦
                let is = under_is dim key m t in
                let here : delta_under dim key m ≡ m.delta = rw t refl in
                let at : place_of dim key ≡ place = ap₂ place_of (sym is.0) (sym is.1) in
                ap (λ j. get_or (set sums place z) j (pos 0)) at
                ∙ get_or-set_same sums place z (pos 0) within
                ∙ e
                ∙ ap (λ (j : ℕ). int_wrap w64 (get_or sums j (pos 0) +ℤ m.delta)) (sym at)
                ∙ ap (λ (y : ℤ). int_wrap w64 (y +ℤ m.delta)) (so.each dim key k)
                ∙ int_wrap-add_left w64 (delta_of (take i rows) dim key) m.delta
                ∙ ap (λ (y : ℤ). int_wrap w64 (delta_of (take i rows) dim key +ℤ y)) (sym here)
                ∙ ap (int_wrap w64) (sym more)
            | inr f ↦
                let none : delta_under dim key m ≡ pos 0 = rw f refl in
                let apart : place_of dim key ≡ place → ⊥ =
                λ p.
                let is = same_place 366 366 dim m.dim key m.key k (keys i d l) p in
                both_ways (is_under dim key m) f (is_under_of dim key m (sym is.0) (sym is.1)) in
                let stays : delta_of (take i rows) dim key ≡ delta_of (take (i + 1) rows) dim key = omega (arith, ints, more, none) in
                get_or-set_other sums place (place_of dim key) z (pos 0) apart ∙ so.each dim key k ∙ ap (int_wrap w64) stays
          ];
    }

-- ---- the differences
-- what is given less what is taken
abbrev pub difference : List Moved → List Moved → Dim → ℕ → ℤ
difference taken given dim key = delta_of given dim key -ℤ delta_of taken dim key

wrapped_difference : (a b : ℤ) → FitsSigned w64 (a -ℤ b) → int_wrap w64 (int_wrap w64 a -ℤ int_wrap w64 b) ≡ a -ℤ b
wrapped_difference a b fits =
    int_wrap-sub_right w64 (int_wrap w64 a) b ∙ int_wrap-add_left w64 a (neg_ℤ b) ∙ int_wrap_fits w64 (a -ℤ b) fits

-- the difference of two wrapped sums is that of the lists, where it fits
pub difference_at : (taken given : List Moved) (t g : ℤ) (dim : Dim) (key : ℕ) → t ≡ int_wrap w64 (delta_of taken dim key) → g ≡ int_wrap w64 (delta_of given dim key)
    → FitsSigned w64 (difference taken given dim key) → int_wrap w64 (g -ℤ t) ≡ difference taken given dim key
difference_at taken given t g dim key et eg fits =
    ap₂ (λ (x y : ℤ). int_wrap w64 (x -ℤ y)) eg et ∙ wrapped_difference (delta_of given dim key) (delta_of taken dim key) fits

-- the moves of the places below this one
pub record AreMoves (taken given moved : List Moved) (place : ℕ) : Type 0 where
  pub below : All (λ m. IsKey 366 m.dim m.key × (place_of m.dim m.key < place)) moved
  pub order : AreInOrder moved
  pub no_zero : HaveNoZero moved
  pub each : (dim : Dim) (key : ℕ) → IsKey 366 dim key → place_of dim key < place → delta_of moved dim key ≡ difference taken given dim key

-- keys at rising places are in order
rising_keys : (d e : Dim) (j k : ℕ) → IsKey 366 d j → IsKey 366 e k → place_of d j < place_of e k → (dim_number d < dim_number e) ⊎ ((d ≡ e) × (j < k))
rising_keys Cause Cause j k h i l = inr (refl, l)
rising_keys Cause Feeder j k h i l = inl (omega arith)
rising_keys Cause Day j k h i l = inl (omega arith)
rising_keys Feeder Cause j k h i l = absurd (omega (arith, h.0))
rising_keys Feeder Feeder j k h i l = inr (refl, omega arith)
rising_keys Feeder Day j k h i l = inl (omega arith)
rising_keys Day Cause j k h i l = absurd (omega arith)
rising_keys Day Feeder j k h i l = absurd (omega (arith, i.1))
rising_keys Day Day j k h i l = inr (refl, omega arith)

-- rows at rising places are in order
before_by_place : (m n : Moved) → IsKey 366 m.dim m.key → IsKey 366 n.dim n.key → place_of m.dim m.key < place_of n.dim n.key → IsBefore m n
before_by_place m n j k l = rising_keys m.dim n.dim m.key n.key j k l

none_under : (moved : List Moved) (place : ℕ) (dim : Dim) (key : ℕ) → All (λ m. IsKey 366 m.dim m.key × (place_of m.dim m.key < place)) moved → place ≤ place_of dim key
    → delta_of moved dim key ≡ pos 0
none_under moved place dim key below h =
    delta_of_none moved dim key
    (λ i d l.
    let m = get_or moved i d in
    other_under dim key m (λ is. let same : place_of m.dim m.key ≡ place_of dim key = ap₂ place_of is.0 is.1 in absurd (omega (arith, same, (below i d l).1, h))))

pub one_skipped : (taken given moved : List Moved) (place : ℕ) (z : ℤ) → AreMoves taken given moved place
    → ((dim : Dim) (key : ℕ) → IsKey 366 dim key → place_of dim key ≡ place → z ≡ difference taken given dim key)
    → z ≡ pos 0 → AreMoves taken given moved (place + 1)
one_skipped taken given moved place z so at none = record {
  below = λ i d l. ((so.below i d l).0, omega (arith, (so.below i d l).1));
  order = so.order;
  no_zero = so.no_zero;
  each = λ dim key k l.
      elim (cases_eq (place_of dim key) place) [
        | inl here ↦ none_under moved place dim key so.below (omega arith) ∙ sym none ∙ at dim key k here
        | inr apart ↦ so.each dim key k (omega arith)
      ];
}

pub one_more : (taken given moved : List Moved) (place : ℕ) (z : ℤ) (m : Moved) → AreMoves taken given moved place
    → ((dim : Dim) (key : ℕ) → IsKey 366 dim key → place_of dim key ≡ place → z ≡ difference taken given dim key)
    → z ≢ pos 0 → IsKey 366 m.dim m.key → place_of m.dim m.key ≡ place → m.delta ≡ z → AreMoves taken given (moved ++ m ∷ []) (place + 1)
one_more taken given moved place z m so at some known here is = record {
  below = All-push (λ n. IsKey 366 n.dim n.key × (place_of n.dim n.key < place + 1)) moved m
      (λ i d l. ((so.below i d l).0, omega (arith, (so.below i d l).1)))
      (known, omega arith);
  order = all_pairs_push IsBefore moved m so.order
      (λ i d l. before_by_place (get_or moved i d) m (so.below i d l).0 known (omega (arith, (so.below i d l).1)));
  no_zero = All-push (λ n. n.delta ≢ pos 0) moved m so.no_zero (λ e. some (sym is ∙ e));
  each = λ dim key k l.
      let push = delta_of_push moved m dim key in
      elim (cases_eq (place_of dim key) place) [
        | inl now ↦
            let same = same_place 366 366 dim m.dim key m.key k known (now ∙ sym here) in
            let under : is_under dim key m ≡ true = is_under_of dim key m (sym same.0) (sym same.1) in
            let moves_by : delta_under dim key m ≡ m.delta = rw under refl in
            let none = none_under moved place dim key so.below (omega arith) in
            let value = at dim key k now in
            omega (arith, ints, push, moves_by, none, value, is)
        | inr apart ↦
            let other : is_under dim key m ≡ false =
            other_under dim key m (λ same. apart (sym (ap₂ place_of same.0 same.1) ∙ here)) in
            let stays : delta_under dim key m ≡ pos 0 = rw other refl in
            omega (arith, ints, push, stays, so.each dim key k (omega arith))
      ];
}

-- rows of other keys move nothing
pub none_of_others : (days : ℕ) (rows : List Moved) (dim : Dim) (key : ℕ) → HaveKeys days rows → (IsKey days dim key → ⊥) → delta_of rows dim key ≡ pos 0
none_of_others days rows dim key keys no_key =
    delta_of_none rows dim key
    (λ i d l.
    let m = get_or rows i d in
    other_under dim key m (λ is. absurd (no_key (subst (λ (e : Dim). IsKey days e key) is.0 (subst (λ (k : ℕ). IsKey days m.dim k) is.1 (keys i d l))))))

pub all_moves : (taken given moved : List Moved) (place : ℕ) (dim : Dim) (key : ℕ) → HaveKeys 366 taken → HaveKeys 366 given → AreMoves taken given moved place → 685 ≤ place
    → delta_of moved dim key ≡ difference taken given dim key
all_moves taken given moved place dim key kt kg so l =
    elim (cases_key 366 dim key) [
      | inl k ↦ so.each dim key k (omega (arith, place_below 366 dim key k))
      | inr no_key ↦
          let none = none_of_others 366 moved dim key (λ i d l. (so.below i d l).0) no_key in
          omega (arith, ints, none, none_of_others 366 taken dim key kt no_key, none_of_others 366 given dim key kg no_key)
    ]

-- a key that moves is one of those taken or given
pub keys_of_moves : (taken given moved : List Moved) (place days : ℕ) → HaveKeys 366 taken → HaveKeys 366 given → AreMoves taken given moved place → 685 ≤ place
    → HaveKeys days taken → HaveKeys days given → HaveKeys days moved
keys_of_moves taken given moved place days kt kg so l ht hg = λ i d n.
    let m = get_or moved i d in
    elim (cases_key days m.dim m.key) [
      | inl k ↦ k
      | inr no_key ↦
          let none_taken = none_of_others days taken m.dim m.key ht no_key in
          let none_given = none_of_others days given m.dim m.key hg no_key in
          let value = all_moves taken given moved place m.dim m.key kt kg so l in
          let zero : m.delta ≡ pos 0 = omega (arith, ints, none_taken, none_given, value, only_once moved i d so.order n) in
          absurd (so.no_zero i d n zero)
    ]

-- From rows that are taken and given to moves, and from moves to new amounts.
use Rattle.std.proofs.Common.{◌≡◌, ◌∙◌, sym, ap, subst, refl, ℕ, zero, suc, ◌+◌, ◌^◌, ◌<◌, ◌≤◌, List, [], ◌∷◌, get_or, sum_by, ℤ, pos, ◌-ℤ◌, ◌≤ℤ◌, inl, inr, arith}
use Rattle.std.specs.Int.{w64}
use Rattle.std.specs.Int.RustNames.{unsigned_abs}
use Rattle.std.specs.List.{All, AllPairs, Contains, range_with_len}
use Rattle.std.proofs.lemmas.Bool.{cases_eq}
use Rattle.std.proofs.lemmas.Int.{ints, fits_signed_from_abs}
use Rattle.std.proofs.lemmas.List.FromFn.{sum_by-map-range_with_len_more}
use Rattle.std.proofs.lemmas.List.Sums.{sum_by-cons}
use Rattle.ob_post.specs.declared.Dim.{Dim}
use Rattle.ob_post.specs.declared.Moved.{Moved}
use Rattle.ob_post.specs.Keys.{IsKey, keys}
use Rattle.ob_post.specs.Moved.{delta_of, HaveKeys, moves_by}
use Rattle.ob_post.specs.MoveLaws.{NoneReposted, NodeStays, NodeReposted, HaveKeysOfMore, RepostedDiffer, DifferencesFit, MovesLeadTo, change_from}
use Rattle.ob_post.specs.Postings.{PostedAmounts, amount_of, day_count, amount_after, total_after}
use Rattle.ob_post.proofs.Keying.{key_of_more, same_sums}
use Rattle.ob_post.proofs.DifferingRows.{cases_key, none_of_others}
use Rattle.ob_post.proofs.Sums.{sum_by-map}
use Rattle.ob_post.proofs.Listed.{delta_of-moves_by, keys_of_moves_by}

-- ---- the sections that are posted again
-- the sums over the numbers from a on, where two functions differ at these numbers alone
reposted_from : (old new : ℕ → ℕ) (a n : ℕ) (vs : List ℕ) → AllPairs (λ v w. v < w) vs → All (λ v. a ≤ v) vs → All (λ v. v < a + n) vs → ((v : ℕ) → a ≤ v → v < a + n → (Contains vs v → ⊥) → new v ≡ old v)
    → sum_by new (range_with_len a n) + sum_by old vs ≡ sum_by old (range_with_len a n) + sum_by new vs
reposted_from old new a zero [] rising above below same = refl
reposted_from old new a zero (v ∷ vs) rising above below same = absurd (omega (arith, above 0 v (omega arith), below 0 v (omega arith)))
reposted_from old new a (suc n) [] rising above below same =
    let rest = reposted_from old new (a + 1) n [] rising (λ i d l. absurd (omega arith)) (λ i d l. absurd (omega arith)) (λ w l u out. same w (omega arith) (omega arith) out) in
    let here = same a (omega arith) (omega arith) (λ found. absurd (omega (arith, found.1))) in
    omega (arith, sum_by-cons new a (range_with_len (a + 1) n), sum_by-cons old a (range_with_len (a + 1) n), rest, here)
reposted_from old new a (suc n) (v ∷ vs) rising above below same = elim (cases_eq v a) [
  | inl at ↦
      let rest = reposted_from old new (a + 1) n vs (λ i j d l k. rising (suc i) (suc j) d (omega arith) (omega arith))
      (λ i d l. omega (arith, rising 0 (suc i) d (omega arith) (omega arith)))
      (λ i d l. omega (arith, below (suc i) d (omega arith)))
      (λ w l u out. same w (omega arith) (omega arith) (λ found. not_here w found (omega arith) out)) in
      omega
      (arith, sum_by-cons new a (range_with_len (a + 1) n), sum_by-cons old a (range_with_len (a + 1) n), sum_by-cons new v vs, sum_by-cons old v vs, rest, ap new at, ap old at)
  | inr apart ↦
      let first : a < v = omega (arith, above 0 v (omega arith)) in
      let rest = reposted_from old new (a + 1) n (v ∷ vs) rising (all_above first) (λ i d l. omega (arith, below i d l))
      (λ w l u out. same w (omega arith) (omega arith) out) in
      let here = same a (omega arith) (omega arith) (λ found. none_at first found) in
      omega (arith, sum_by-cons new a (range_with_len (a + 1) n), sum_by-cons old a (range_with_len (a + 1) n), rest, here)
]
  where
    not_here : (w : ℕ) → Contains (v ∷ vs) w → v < w → (Contains vs w → ⊥) → ⊥
    not_here w (zero, l, e) more out = absurd (omega arith)
    not_here w (suc i, l, e) more out = out (i, omega arith, e)

    all_above : a < v → All (λ w. a + 1 ≤ w) (v ∷ vs)
    all_above l zero d k = omega arith
    all_above l (suc i) d k = omega (arith, rising 0 (suc i) d (omega arith) k)

    none_at : a < v → Contains (v ∷ vs) a → ⊥
    none_at l (zero, k, e) = absurd (omega arith)
    none_at l (suc i, k, e) = absurd (omega (arith, e, rising 0 (suc i) a (omega arith) k))

pub reposted_differ : RepostedDiffer
reposted_differ old new vs n rising below same =
    omega (arith, ints, reposted_from old new 0 n vs rising (λ i d l. omega arith) (λ i d l. omega (arith, below i d l)) (λ v l u out. same v (omega arith) out))

-- ---- node by node
sum_more : (f : ℕ → ℕ) (n : ℕ) → sum_by f (range_with_len 0 (n + 1)) ≡ sum_by f (range_with_len 0 n) + f n
sum_more f n =
    sym (sum_by-map f (λ (v : ℕ). v) (range_with_len 0 (n + 1)))
    ∙ sum_by-map-range_with_len_more f (λ (v : ℕ). v) 0 n n (omega arith)
    ∙ ap (λ (k : ℕ). k + f n) (sum_by-map f (λ (v : ℕ). v) (range_with_len 0 n))

pub none_reposted : NoneReposted
none_reposted old new = λ dim key. omega (arith, ints)

pub node_stays : NodeStays
node_stays old new n taken given so same = λ dim key.
    omega (arith, ints, so dim key, sum_more (λ v. new v dim key) n, sum_more (λ v. old v dim key) n, same dim key)

pub node_reposted : NodeReposted
node_reposted old new n taken given taken_more given_more so more_taken more_given = λ dim key.
    omega (arith, ints, so dim key, more_taken dim key, more_given dim key, sum_more (λ v. new v dim key) n, sum_more (λ v. old v dim key) n)

pub have_keys_of_more : HaveKeysOfMore
have_keys_of_more m n rows l h = λ i d k. key_of_more m n (get_or rows i d).dim (get_or rows i d).key l (h i d k)

-- ---- differences that fit
small_difference : (m n : ℕ) → m < 2 ^ 63 → n < 2 ^ 63 → unsigned_abs (pos m -ℤ pos n) < 2 ^ 63
small_difference m n h k = omega (arith, ints)

pub differences_fit : DifferencesFit
differences_fit days taken given old new ht hg agrees small_old small_new dim key = elim (cases_key days dim key) [
  | inl k ↦
      let is = agrees dim key k in
      fits_signed_from_abs w64 (delta_of given dim key -ℤ delta_of taken dim key)
      (omega (arith, ap unsigned_abs is, small_difference (new dim key) (old dim key) (small_new dim key) (small_old dim key)))
  | inr no_key ↦
      let none : delta_of given dim key -ℤ delta_of taken dim key ≡ pos 0 = omega (arith, ints, none_of_others days taken dim key ht no_key, none_of_others days given dim key hg no_key) in
      fits_signed_from_abs w64 (delta_of given dim key -ℤ delta_of taken dim key) (omega (arith, ap unsigned_abs none))
]

-- ---- from moves to new amounts
after_moves : (a : PostedAmounts) (old new : Dim → ℕ → ℕ) (moved : List Moved) (dim : Dim) (key : ℕ) → IsKey (day_count a) dim key → amount_of a dim key ≡ old dim key
    → moved ≡ moves_by (change_from old new) (day_count a) → amount_after a moved dim key ≡ pos (new dim key)
after_moves a old new moved dim key k now is =
    let moves : delta_of moved dim key ≡ pos (new dim key) -ℤ pos (old dim key) = ap (λ (ms : List Moved). delta_of ms dim key) is ∙ delta_of-moves_by (change_from old new) (day_count a) dim key k in
    omega (arith, ints, moves, now)

pub moves_lead_to : MovesLeadTo
moves_lead_to a old new moved now is small = record {
  keys = subst (HaveKeys (day_count a)) (sym is) (keys_of_moves_by (change_from old new) (day_count a));
  floor = λ dim key k. subst (λ (z : ℤ). pos 0 ≤ℤ z) (sym (after_moves a old new moved dim key k (now dim key k) is)) (omega (arith, ints));
  ceiling = λ dim.
      let total : total_after a moved dim ≡ sum_by (new dim) (keys (day_count a) dim) =
      same_sums (λ key. unsigned_abs (amount_after a moved dim key)) (new dim) (day_count a) dim (λ key k. ap unsigned_abs (after_moves a old new moved dim key k (now dim key k) is)) in
      omega (arith, total, small dim);
  after = λ dim key k. after_moves a old new moved dim key k (now dim key k) is;
}

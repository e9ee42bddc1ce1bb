-- The seconds of the longest intervals on which a test holds are those at which it holds.
use Rattle.std.proofs.Common.{◌≡◌, ◌∙◌, sym, ap, subst, refl, ℕ, zero, suc, ◌+◌, ◌-◌, ◌<◌, ◌≤◌, ◌==◌, Bool, true, false, cond, map, sum_by, Some, eq-eqb, zero-add, inl, inr, arith}
use Rattle.std.specs.List.{filter, find, list_all, prefix_len, range_with_len}
use Rattle.std.proofs.lemmas.Bool.{cases_Bool, cases_lt, and_right, ne_eqb, true≢false}
use Rattle.std.proofs.lemmas.List.FromFn.{length-range_with_len, get_or-range_with_len}
use Rattle.std.proofs.lemmas.List.Folds.{list_all_at}
use Rattle.std.proofs.lemmas.List.Sums.{sum_by-cons, prefix_len-le-length, prefix_len_passes, list_all-from_AllPass}
use Rattle.ob_base.specs.Seconds.{seconds, starts_at, interval_from, intervals}
use Rattle.ob_base.specs.declared.interval.Interval.{Interval}
use Rattle.ob_post.proofs.Sums.{sum_by-map}

-- the sum over the interval from s on
abbrev from : (ℕ → ℕ) → (ℕ → Bool) → ℕ → ℕ → ℕ
from f test b s = sum_by f (seconds s (s + prefix_len test (seconds s b)))

-- where the test doesn't hold there is no interval
from_none : (f : ℕ → ℕ) (test : ℕ → Bool) (b s n : ℕ) → s + n ≡ b → test s ≡ false → from f test b s ≡ 0
from_none f test b s zero e h =
    let none : b - s ≡ 0 = omega arith in
    let empty : s + 0 - s ≡ 0 = omega arith in
    ap (λ (k : ℕ). sum_by f (seconds s (s + prefix_len test (range_with_len s k)))) none ∙ ap (λ (k : ℕ). sum_by f (range_with_len s k)) empty
from_none f test b s (suc n) e h =
    let some : b - s ≡ suc n = omega arith in
    let empty : s + 0 - s ≡ 0 = omega arith in
    ap (λ (k : ℕ). sum_by f (seconds s (s + prefix_len test (range_with_len s k)))) some
    ∙ ap (λ (t : Bool). sum_by f (seconds s (s + cond t (1 + prefix_len test (range_with_len (s + 1) n)) 0))) h
    ∙ ap (λ (k : ℕ). sum_by f (range_with_len s k)) empty

-- where it holds, the interval goes on with that of the next second
from_some : (f : ℕ → ℕ) (test : ℕ → Bool) (b s n : ℕ) → s + suc n ≡ b → test s ≡ true → from f test b s ≡ f s + from f test b (s + 1)
from_some f test b s n e h =
    let long : ℕ = prefix_len test (range_with_len (s + 1) n) in
    let some : b - s ≡ suc n = omega arith in
    let rest : b - (s + 1) ≡ n = omega arith in
    let here : s + (1 + long) - s ≡ suc long = omega arith in
    let next : s + 1 + long - (s + 1) ≡ long = omega arith in
    ap (λ (k : ℕ). sum_by f (seconds s (s + prefix_len test (range_with_len s k)))) some
    ∙ ap (λ (t : Bool). sum_by f (seconds s (s + cond t (1 + long) 0))) h
    ∙ ap (λ (k : ℕ). sum_by f (range_with_len s k)) here
    ∙ sum_by-cons f s (range_with_len (s + 1) long)
    ∙ ap (λ (k : ℕ). f s + sum_by f (range_with_len (s + 1) k)) (sym next)
    ∙ ap (λ (k : ℕ). f s + sum_by f (seconds (s + 1) (s + 1 + prefix_len test (range_with_len (s + 1) k)))) (sym rest)

-- from s on: the intervals that start there or later, and before them the rest of one that started earlier
parts_from : (f : ℕ → ℕ) (test : ℕ → Bool) (a b s n : ℕ) → a ≤ s → s + n ≡ b → ((t : ℕ) → test t ≡ false → f t ≡ 0)
    → sum_by f (range_with_len s n) ≡ cond (starts_at test a s) 0 (from f test b s) + sum_by (from f test b) (filter (starts_at test a) (range_with_len s n))
parts_from f test a b s zero l e off =
    let none : b - s ≡ 0 = omega arith in
    let empty : s + 0 - s ≡ 0 = omega arith in
    let nothing : from f test b s ≡ 0 =
    ap (λ (k : ℕ). sum_by f (seconds s (s + prefix_len test (range_with_len s k)))) none ∙ ap (λ (k : ℕ). sum_by f (range_with_len s k)) empty in
    elim (cases_Bool (starts_at test a s)) [ inl t ↦ rw t refl | inr n ↦ rw n (omega (arith, nothing)) ]
parts_from f test a b s (suc n) l e off =
    let rest = parts_from f test a b (s + 1) n (omega arith) (omega arith) off in
    let sum = sum_by-cons f s (range_with_len (s + 1) n) in
    let after : (s + 1 - 1) ≡ s = omega arith in
    let later : (s + 1 == a) ≡ false = ne_eqb (s + 1) a (λ same. omega arith) in
    elim (cases_Bool (test s)) [
      | inl t ↦
          let goes_on : starts_at test a (s + 1) ≡ false = rw later (rw after (rw t (and_right (test (s + 1)) false refl))) in
          let one = from_some f test b s n e t in
          let more : sum_by f (range_with_len (s + 1) n) ≡ from f test b (s + 1) + sum_by (from f test b) (filter (starts_at test a) (range_with_len (s + 1) n)) =
          rest ∙ ap (λ (k : Bool). cond k 0 (from f test b (s + 1)) + sum_by (from f test b) (filter (starts_at test a) (range_with_len (s + 1) n))) goes_on in
          elim (cases_Bool (starts_at test a s)) [
            | inl starts ↦ rw starts (omega (arith, sum, more, one, sum_by-cons (from f test b) s (filter (starts_at test a) (range_with_len (s + 1) n))))
            | inr goes ↦ rw goes (omega (arith, sum, more, one))
          ]
      | inr n_holds ↦
          let starts_not : starts_at test a s ≡ false = rw n_holds refl in
          let none = from_none f test b s (suc n) e n_holds in
          let zero_here = off s n_holds in
          let rest_is : cond (starts_at test a (s + 1)) 0 (from f test b (s + 1)) ≡ 0 =
          elim (cases_Bool (test (s + 1))) [
            | inl u ↦
                let starts : starts_at test a (s + 1) ≡ true = rw u (rw later (rw after (rw n_holds refl))) in
                ap (λ (k : Bool). cond k 0 (from f test b (s + 1))) starts
            | inr u ↦
                let starts : starts_at test a (s + 1) ≡ false = rw u refl in
                ap (λ (k : Bool). cond k 0 (from f test b (s + 1))) starts ∙ from_none f test b (s + 1) n (omega arith) u
          ] in
          rw starts_not (omega (arith, sum, rest, rest_is, none, zero_here))
    ]

-- a sum of what is 0 where the test doesn't hold is the sum over the intervals on which it holds
pub sum_of_parts : (f : ℕ → ℕ) (test : ℕ → Bool) (a b : ℕ) → ((t : ℕ) → test t ≡ false → f t ≡ 0)
    → sum_by f (seconds a b) ≡ sum_by (λ i. sum_by f (seconds i.since i.until)) (intervals test a b)
sum_of_parts f test a b off = elim (cases_lt a b) [
  | inl some ↦
      let parts = parts_from f test a b a (b - a) (omega arith) (omega arith) off in
      let first : cond (starts_at test a a) 0 (from f test b a) ≡ 0 =
      elim (cases_Bool (test a)) [
        | inl t ↦
            let same : (a == a) ≡ true = eq-eqb a a refl in
            let starts : starts_at test a a ≡ true = rw t (rw same refl) in
            ap (λ (k : Bool). cond k 0 (from f test b a)) starts
        | inr n ↦
            let starts : starts_at test a a ≡ false = rw n refl in
            ap (λ (k : Bool). cond k 0 (from f test b a)) starts ∙ from_none f test b a (b - a) (omega arith) n
      ] in
      parts
      ∙ ap (λ (k : ℕ). k + sum_by (from f test b) (filter (starts_at test a) (seconds a b))) first
      ∙ zero-add (sum_by (from f test b) (filter (starts_at test a) (seconds a b)))
      ∙ sym (sum_by-map (λ (i : Interval). sum_by f (seconds i.since i.until)) (interval_from test b) (filter (starts_at test a) (seconds a b)))
  | inr none ↦
      let empty : b - a ≡ 0 = omega arith in
      ap (λ (k : ℕ). sum_by f (range_with_len a k)) empty
      ∙ sym (ap (λ (k : ℕ). sum_by (λ (i : Interval). sum_by f (seconds i.since i.until)) (map (interval_from test b) (filter (starts_at test a) (range_with_len a k)))) empty)
]

-- ---- what holds at the seconds of an interval
-- the test holds at each second of the interval from a second on, which ends by b
pub holds_within : (test : ℕ → Bool) (b i s : ℕ) → i ≤ s → s < i + prefix_len test (seconds i b) → test s ≡ true
holds_within test b i s l u =
    let len = prefix_len-le-length test (seconds i b) in
    let long = length-range_with_len i (b - i) in
    subst (λ (t : ℕ). test t ≡ true) (get_or-range_with_len i (b - i) (s - i) 0 (omega arith) ∙ omega arith)
    (prefix_len_passes test (seconds i b) (s - i) 0 (omega arith))

-- it lies between a and b, and has some second
pub lies_within : (test : ℕ → Bool) (a b i : ℕ) → a ≤ i → i < b → test i ≡ true → (a ≤ i) × (i < i + prefix_len test (seconds i b)) × (i + prefix_len test (seconds i b) ≤ b)
lies_within test a b i l u h =
    let len = prefix_len-le-length test (seconds i b) in
    let long = length-range_with_len i (b - i) in
    let some : 0 < prefix_len test (seconds i b) = first_passes test i (b - i) (omega arith) h in
    (l, omega arith, omega arith)
  where
    first_passes : (p : ℕ → Bool) (j n : ℕ) → 0 < n → p j ≡ true → 0 < prefix_len p (range_with_len j n)
    first_passes p j zero m t = absurd (omega arith)
    first_passes p j (suc n) m t = rw t (omega arith)

-- the first number of a range that passes a test
find_first : (p : ℕ → Bool) (a n k : ℕ) → a ≤ k → k < a + n → p k ≡ true → ((j : ℕ) → a ≤ j → j < k → p j ≡ false) → find p (range_with_len a n) ≡ Some k
find_first p a zero k l u h below = absurd (omega arith)
find_first p a (suc n) k l u h below = elim (cases_lt a k) [
  | inl less ↦ rw (below a (omega arith) less) (find_first p (a + 1) n k (omega arith) (omega arith) h (λ j m o. below j (omega arith) o))
  | inr past ↦
      let same : k ≡ a = omega arith in
      rw (ap p (sym same) ∙ h) (ap (λ (j : ℕ). Some j) (sym same))
]

-- the first second from which on the test holds up to s, and at s, is that where the interval that holds s starts
pub start_is : (test : ℕ → Bool) (a b i s : ℕ) → a ≤ i → starts_at test a i ≡ true → i ≤ s → s < i + prefix_len test (seconds i b)
    → find (λ t. list_all test (seconds t (s + 1))) (seconds a (s + 1)) ≡ Some i
start_is test a b i s l starts m u =
    find_first (λ t. list_all test (seconds t (s + 1))) a (s + 1 - a) i l (omega arith)
    (list_all-from_AllPass test (seconds i (s + 1))
    (λ k d o.
    let long = length-range_with_len i (s + 1 - i) in
    let at = get_or-range_with_len i (s + 1 - i) k d (omega arith) in
    ap test at ∙ holds_within test b i (i + k) (omega arith) (omega arith)))
    (λ j n o.
    let off : test (i - 1) ≡ false = before_start i starts (omega arith) in
    let long = length-range_with_len j (s + 1 - j) in
    let at = get_or-range_with_len j (s + 1 - j) (i - 1 - j) 0 (omega arith) in
    let there : j + (i - 1 - j) ≡ i - 1 = omega arith in
    list_all_at test (seconds j (s + 1)) (i - 1 - j) 0 (omega arith) (ap test (at ∙ there) ∙ off))
  where
    before_start : (k : ℕ) → starts_at test a k ≡ true → a < k → test (k - 1) ≡ false
    before_start k h o =
        let apart : (k == a) ≡ false = ne_eqb k a (λ same. omega arith) in
        elim (cases_Bool (test (k - 1))) [
          | inl t ↦ absurd (true≢false (sym h ∙ rw apart (rw t (and_right (test k) false refl))))
          | inr n ↦ n
        ]

-- The customer-seconds of a run as seconds of service: sums over the seconds and the customers in either order.
use Rattle.std.proofs.Common.{◌≡◌, ◌∙◌, sym, ap, ap₂, refl, ℕ, zero, suc, ◌+◌, ◌-◌, ◌^◌, ◌<◌, ◌≤◌, ◌==◌, ◌&&◌, Bool, true, false, cond, nat_le, nat_lt, min, max, List, length, get_or, sum_by, count_by, Option, Some, None, slice_get, inl, inr, zero-add, arith}
use Rattle.std.specs.List.{filter, range_with_len}
use Rattle.std.specs.Option.{option_map_or}
use Rattle.std.proofs.Math.Bool.{and-true}
use Rattle.std.proofs.Math.Nat.{mul-le-mul_right}
use Rattle.std.proofs.lemmas.Bool.{cases_lt, le-leb, lt-leb, lt-ltb, le-ltb, and_right}
use Rattle.std.proofs.lemmas.List.FromFn.{length-range_with_len}
use Rattle.std.proofs.lemmas.List.Sums.{sum_by-cons, sum_by-le, count_by-le-length, length-filter}
use Rattle.ob_base.specs.Seconds.{seconds}
use Rattle.ob_base.specs.declared.interval.Interval.{Interval}
use Rattle.ob_base.specs.declared.TheConstants.{LAST_SECOND}
use Rattle.ob_cust.specs.declared.Customer.{Customer}
use Rattle.ob_cust.specs.Service.{in_service, served_seconds}
use Rattle.ob_cust.specs.WithoutSupply.{customer_seconds}
use Rattle.ob_sweep.specs.declared.Run.{Run}
use Rattle.ob_post.specs.declared.Dim.{Dim}
use Rattle.ob_post.specs.declared.Dim.TheVariants.{Cause, Feeder, Day}
use Rattle.ob_post.specs.RunAmounts.{customer_seconds_in, served_in}
use Rattle.ob_post.proofs.Sums.{sum_of_zeros, sum_of_same, sum_of_passing, swap_sums}

-- ---- the customers of a section
-- a test that holds nowhere counts nothing
count_nowhere : (p : ℕ → Bool) (xs : List ℕ) → count_by (λ s. p s && false) xs ≡ 0
count_nowhere p xs = sum_of_same (λ s. cond (p s && false) 1 0) (λ s. 0) xs (λ s. ap (λ b. cond b 1 0) (and_right (p s) false refl)) ∙ sum_of_zeros xs

count_everywhere : (p : ℕ → Bool) (xs : List ℕ) → count_by (λ s. p s && true) xs ≡ count_by p xs
count_everywhere p xs = sum_of_same (λ s. cond (p s && true) 1 0) (λ s. cond (p s) 1 0) xs (λ s. ap (λ b. cond b 1 0) (and-true (p s)))

count_if : (p t : ℕ → Bool) (b : Bool) (xs : List ℕ) → count_by (λ s. p s && (b && t s)) xs ≡ cond b (count_by (λ s. p s && t s) xs) 0
count_if p t true xs = refl
count_if p t false xs = count_nowhere p xs

-- counted second by second over all customers, or customer by customer over those of the section
by_customer : (roll : List Customer) (v : ℕ) (when : List ℕ) (t : ℕ → Bool)
    → customer_seconds (λ c s. in_service c s && (c.section == v && t s)) when roll ≡ sum_by (λ c. count_by (λ s. in_service c s && t s) when) (filter (λ c. c.section == v) roll)
by_customer roll v when t =
    swap_sums (λ s c. cond (in_service c s && (c.section == v && t s)) 1 0) when roll
    ∙ sum_of_same (λ c. count_by (λ s. in_service c s && (c.section == v && t s)) when) (λ c. cond (c.section == v) (count_by (λ s. in_service c s && t s) when) 0) roll
    (λ c. count_if (in_service c) t (c.section == v) when)
    ∙ sum_of_passing (λ c. c.section == v) (λ c. count_by (λ s. in_service c s && t s) when) roll

-- ---- the part of a run in a day
clipped : (p : ℕ → Bool) (lo hi a n : ℕ)
    → count_by (λ s. p s && (nat_le lo s && nat_lt s hi)) (range_with_len a n) ≡ count_by p (range_with_len (max a lo) (min (a + n) hi - max a lo))
clipped p lo hi a zero =
    let none : min (a + 0) hi - max a lo ≡ 0 = omega arith in
    ap (λ (k : ℕ). count_by p (range_with_len (max a lo) k)) (sym none)
clipped p lo hi a (suc n) =
    sum_by-cons (λ s. cond (p s && (nat_le lo s && nat_lt s hi)) 1 0) a (range_with_len (a + 1) n)
    ∙ ap (λ (k : ℕ). cond (p a && (nat_le lo a && nat_lt a hi)) 1 0 + k) (clipped p lo hi (a + 1) n)
    ∙ elim (cases_lt a lo) [
      | inl early ↦
          let out : nat_le lo a ≡ false = lt-leb lo a early in
          let first : max (a + 1) lo ≡ max a lo = omega arith in
          let rest : min (a + 1 + n) hi - max (a + 1) lo ≡ min (a + suc n) hi - max a lo = omega arith in
          ap₂ (λ (b : Bool) (k : ℕ). cond b 1 0 + k) (and_right (p a) (nat_le lo a && nat_lt a hi) (rw out refl)) (ap₂ (λ (f k : ℕ). count_by p (range_with_len f k)) first rest)
          ∙ zero-add (count_by p (range_with_len (max a lo) (min (a + suc n) hi - max a lo)))
      | inr since ↦
          elim (cases_lt a hi) [
            | inl before ↦
                let in_it : (nat_le lo a && nat_lt a hi) ≡ true = rw (le-leb lo a since) (lt-ltb a hi before) in
                let here : (p a && (nat_le lo a && nat_lt a hi)) ≡ p a = rw in_it (and-true (p a)) in
                let first : max (a + 1) lo ≡ a + 1 = omega arith in
                let start : a ≡ max a lo = omega arith in
                let rest : min (a + 1 + n) hi - max (a + 1) lo ≡ min (a + suc n) hi - (a + 1) = omega arith in
                let long : suc (min (a + suc n) hi - (a + 1)) ≡ min (a + suc n) hi - max a lo = omega arith in
                ap₂ (λ (b : Bool) (k : ℕ). cond b 1 0 + k) here (ap₂ (λ (f k : ℕ). count_by p (range_with_len f k)) first rest)
                ∙ sym (sum_by-cons (λ s. cond (p s) 1 0) a (range_with_len (a + 1) (min (a + suc n) hi - (a + 1))))
                ∙ ap₂ (λ (f k : ℕ). count_by p (range_with_len f k)) start long
            | inr past ↦
                let out : nat_lt a hi ≡ false = le-ltb a hi past in
                let none : min (a + 1 + n) hi - max (a + 1) lo ≡ 0 = omega arith in
                let nothing : min (a + suc n) hi - max a lo ≡ 0 = omega arith in
                ap₂ (λ (b : Bool) (k : ℕ). cond b 1 0 + k)
                (and_right (p a) (nat_le lo a && nat_lt a hi) (and_right (nat_le lo a) (nat_lt a hi) out))
                (ap (λ (k : ℕ). count_by p (range_with_len (max (a + 1) lo) k)) none)
                ∙ ap (λ (k : ℕ). count_by p (range_with_len (max a lo) k)) (sym nothing)
          ]
    ]

part_of_day : (p : ℕ → Bool) (a b : ℕ) (d : Interval) → a ≤ b
    → count_by (λ s. p s && (nat_le d.since s && nat_lt s d.until)) (seconds a b) ≡ count_by p (seconds (max a d.since) (min b d.until))
part_of_day p a b d h =
    let end : a + (b - a) ≡ b = omega arith in
    clipped p d.since d.until a (b - a) ∙ ap (λ (e : ℕ). count_by p (range_with_len (max a d.since) (min e d.until - max a d.since))) end

-- ---- the law
served_if : (roll : List Customer) (v a b : ℕ) (t : Bool)
    → customer_seconds (λ c s. in_service c s && (c.section == v && t)) (seconds a b) roll ≡ cond t (served_seconds roll v a b) 0
served_if roll v a b true =
    by_customer roll v (seconds a b) (λ s. true)
    ∙ sum_of_same (λ c. count_by (λ s. in_service c s && true) (seconds a b)) (λ c. count_by (in_service c) (seconds a b)) (filter (λ c. c.section == v) roll)
    (λ c. count_everywhere (in_service c) (seconds a b))
served_if roll v a b false =
    by_customer roll v (seconds a b) (λ s. false)
    ∙ sum_of_same (λ c. count_by (λ s. in_service c s && false) (seconds a b)) (λ c. 0) (filter (λ c. c.section == v) roll) (λ c. count_nowhere (in_service c) (seconds a b))
    ∙ sum_of_zeros (filter (λ c. c.section == v) roll)

served_on_day : (roll : List Customer) (v a b : ℕ) (day : Option Interval) → a ≤ b
    → customer_seconds (λ c s. in_service c s && (c.section == v && option_map_or (λ d. nat_le d.since s && nat_lt s d.until) day false)) (seconds a b) roll
    ≡ option_map_or (λ d. served_seconds roll v (max a d.since) (min b d.until)) day 0
served_on_day roll v a b None h = served_if roll v a b false
served_on_day roll v a b (Some d) h =
    by_customer roll v (seconds a b) (λ s. nat_le d.since s && nat_lt s d.until)
    ∙ sum_of_same (λ c. count_by (λ s. in_service c s && (nat_le d.since s && nat_lt s d.until)) (seconds a b)) (λ c. count_by (in_service c) (seconds (max a d.since) (min b d.until))) (filter (λ c. c.section == v) roll)
    (λ c. part_of_day (in_service c) a b d h)

-- the customer-seconds of a run under a key are its seconds of service there
pub served_is : (roll : List Customer) (run : Run) (cause feeder : ℕ) (days : List Interval) (dim : Dim) (key : ℕ) → run.since ≤ run.until
    → served_in roll run cause feeder days dim key ≡ customer_seconds_in roll run cause feeder days dim key
served_is roll run cause feeder days Cause key h = sym (served_if roll run.section run.since run.until (cause == key))
served_is roll run cause feeder days Feeder key h = sym (served_if roll run.section run.since run.until (feeder == key))
served_is roll run cause feeder days Day key h = sym (served_on_day roll run.section run.since run.until (slice_get days key) h)

-- ---- bounds
-- from a second up to one that isn't above it nobody is served
pub served_nothing : (roll : List Customer) (v a b : ℕ) → b ≤ a → served_seconds roll v a b ≡ 0
served_nothing roll v a b h =
    let none : b - a ≡ 0 = omega arith in
    ap (λ (n : ℕ). sum_by (λ c. count_by (in_service c) (range_with_len a n)) (filter (λ c. c.section == v) roll)) none ∙ sum_of_zeros (filter (λ c. c.section == v) roll)

-- the seconds of service of the customers that there may be are far fewer than 2^63
pub served_small : (roll : List Customer) (v a b : ℕ) → length roll ≤ 100_000 → b ≤ LAST_SECOND → served_seconds roll v a b < 2 ^ 63
served_small roll v a b few early =
    let mine = filter (λ (c : Customer). c.section == v) roll in
    let each = sum_by-le (λ (c : Customer). count_by (in_service c) (seconds a b)) 99_999_999_999 mine
    (λ i d l. omega (arith, count_by-le-length (in_service (get_or mine i d)) (seconds a b), length-range_with_len a (b - a))) in
    let some : length mine ≤ 100_000 = omega (arith, length-filter (λ (c : Customer). c.section == v) roll, count_by-le-length (λ (c : Customer). c.section == v) roll) in
    omega (arith, each, mul-le-mul_right 99_999_999_999 some)

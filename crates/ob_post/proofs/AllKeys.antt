-- Each customer-second has one key of each dimension, and amounts are small.
use Rattle.std.proofs.Common.{◌≡◌, ◌∙◌, sym, ap, ap₂, subst, refl, ℕ, suc, ◌+◌, ◌-◌, ◌*◌, ◌^◌, ◌<◌, ◌≤◌, ◌==◌, ◌&&◌, Bool, true, false, cond, nat_le, nat_lt, List, [], ◌∷◌, length, get_or, count_by, Option, Some, None, slice_get, is_some, IfSome, inl, inr, zero-add, arith}
use Rattle.std.specs.List.{All, range_with_len}
use Rattle.std.specs.Option.{IsSome, option_map_or, option_and_then}
use Rattle.std.proofs.Math.Nat.{mul-le-mul_right}
use Rattle.std.proofs.lemmas.Bool.{cases_Bool, cases_lt, le-leb, lt-leb, lt-ltb, le-ltb, and_right, true≢false}
use Rattle.std.proofs.lemmas.List.Elements.{All-tail}
use Rattle.std.proofs.lemmas.List.FromFn.{length-range_with_len, get_or-range_with_len}
use Rattle.std.proofs.lemmas.List.Sums.{sum_by-cons, sum_by-le, count_by-le-length}
use Rattle.std.proofs.lemmas.Option.{get_or_from_slice_get, slice_get_within}
use Rattle.ob_net.specs.Network.{Network, IsNetwork, HasFeederOrNone, home_feeder}
use Rattle.ob_base.specs.Seconds.{seconds}
use Rattle.ob_base.specs.declared.interval.Interval.{Interval}
use Rattle.ob_net.specs.declared.net.Node.{Node}
use Rattle.ob_sheet.specs.declared.Entry.{Entry}
use Rattle.ob_sheet.specs.Order.{cause_of}
use Rattle.ob_sheet.specs.Supply.{is_deenergized}
use Rattle.ob_cust.specs.declared.Customer.{Customer}
use Rattle.ob_cust.specs.WithoutSupply.{is_without_supply}
use Rattle.ob_sweep.specs.Cutters.{cutter_at}
use Rattle.ob_sweep.specs.Runs.{cause_at, history, start_of}
use Rattle.ob_time.specs.Calendar.{PartSeconds}
use Rattle.ob_post.specs.CustomerSeconds.{Days, customer_seconds_by, has_key, is_in_day}
use Rattle.ob_post.specs.Keys.{keys}
use Rattle.ob_post.specs.TotalLaws.{AddUp, AmountsAreSmall, TotalsAreSmall, TotalsAgree}
use Rattle.ob_post.specs.declared.Dim.{Dim}
use Rattle.ob_post.specs.declared.Dim.TheVariants.{Cause, Feeder, Day}
use Rattle.ob_post.specs.Postings.{amount_of, day_count}
use Rattle.ob_post.proofs.Keying.{same_sums}
use Rattle.ob_post.proofs.Bounds.{few_keys}
use Rattle.ob_post.proofs.Sums.{sum_of_same, sum_by-range_more}
use Rattle.ob_post.proofs.Totals.{add_up, one_in}

-- ---- causes
cause_small : (entries : List Entry) (number : ℕ) → All (λ e. e.cause < 64) entries → cause_of entries number < 64
cause_small [] number h = omega arith
cause_small (e ∷ es) number h = elim (cases_Bool (e.no == number)) [
  | inl t ↦ rw t (h 0 e (omega arith))
  | inr f ↦ rw f (cause_small es number (All-tail (λ x. x.cause < 64) e es h))
]

cause_or_none : (entries : List Entry) (o : Option ℕ) → All (λ e. e.cause < 64) entries → option_map_or (cause_of entries) o 0 < 64
cause_or_none entries None h = omega arith
cause_or_none entries (Some number) h = cause_small entries number h

one_cause : (net : Network) (entries : List Entry) (p : Days) (c : Customer) (s : ℕ) → All (λ e. e.cause < 64) entries → count_by (λ k. has_key net entries p Cause k c s) (range_with_len 0 64) ≡ 1
one_cause net entries p c s h =
    let cause = cause_at net entries p.first c.section s in
    let small = cause_or_none entries (option_and_then (cutter_at net entries c.section) (start_of (history net entries c.section) p.first s)) h in
    one_in cause 0 64 (omega arith) (omega (arith, small))

-- ---- feeders
feeder_in_range : (o : Option Node) (f : ℕ) → ((n : Node) → o ≡ Some n → HasFeederOrNone n) → option_and_then (λ n. n.feeder) o ≡ Some f → (1 ≤ f) × (f ≤ 255)
feeder_in_range None f h e = absurd (true≢false (sym (ap is_some e)))
feeder_in_range (Some n) f h e = known n.feeder e (h n refl)
  where
    known : (q : Option ℕ) → q ≡ Some f → IfSome q (λ feeder. (1 ≤ feeder) × (feeder ≤ 255)) → (1 ≤ f) × (f ≤ 255)
    known q is within = subst (λ (r : Option ℕ). IfSome r (λ feeder. (1 ≤ feeder) × (feeder ≤ 255))) is within

home_in_range : (net : Network) (v f : ℕ) → IsNetwork net → home_feeder net v ≡ Some f → (1 ≤ f) × (f ≤ 255)
home_in_range net v f kept e =
    feeder_in_range (slice_get net.nodes v) f
    (λ n is. subst (λ (m : Node). HasFeederOrNone m) (get_or_from_slice_get net.nodes v n n is) (kept.feeders v n (slice_get_within net.nodes v n is)))
    e

one_feeder_of : (o : Option ℕ) → ((f : ℕ) → o ≡ Some f → (1 ≤ f) × (f ≤ 255)) → IsSome o → count_by (λ k. option_map_or (λ f. f == k) o false) (range_with_len 1 255) ≡ 1
one_feeder_of None h some = absurd (true≢false (sym some))
one_feeder_of (Some f) h some = one_in f 1 255 (h f refl).0 (omega (arith, (h f refl).1))

-- ---- days
-- a later day's number is one less among the days after the first
next_day : (d : Interval) (ds : List Interval) (s n : ℕ) → count_by (λ j. is_in_day (d ∷ ds) j s) (range_with_len 1 n) ≡ count_by (λ j. is_in_day ds j s) (range_with_len 0 n)
next_day d ds s n =
    sum_by-range_more (λ j. cond (is_in_day (d ∷ ds) j s) 1 0) 0 n
    ∙ sum_of_same (λ j. cond (is_in_day (d ∷ ds) (j + 1) s) 1 0) (λ j. cond (is_in_day ds j s) 1 0) (range_with_len 0 n)
    (λ j. let next : j + 1 ≡ suc j = omega arith in ap (λ (k : ℕ). cond (is_in_day (d ∷ ds) k s) 1 0) next)

days_of_cons : (d : Interval) (ds : List Interval) (s : ℕ)
    → count_by (λ j. is_in_day (d ∷ ds) j s) (range_with_len 0 (length (d ∷ ds))) ≡ cond (nat_le d.since s && nat_lt s d.until) 1 0 + count_by (λ j. is_in_day ds j s) (range_with_len 0 (length ds))
days_of_cons d ds s =
    sum_by-cons (λ j. cond (is_in_day (d ∷ ds) j s) 1 0) 0 (range_with_len 1 (length ds))
    ∙ ap (λ (m : ℕ). cond (nat_le d.since s && nat_lt s d.until) 1 0 + m) (next_day d ds s (length ds))

no_day : (days : List Interval) (a b s : ℕ) → PartSeconds a b days → s < a → count_by (λ j. is_in_day days j s) (range_with_len 0 (length days)) ≡ 0
no_day [] a b s parts l = refl
no_day (d ∷ ds) a b s parts l =
    let begins : d.since ≡ a = parts.0 in
    let some : d.since < d.until = parts.1 in
    let out : nat_le d.since s ≡ false = lt-leb d.since s (omega arith) in
    days_of_cons d ds s
    ∙ ap₂ (λ (t : Bool) (m : ℕ). cond (t && nat_lt s d.until) 1 0 + m) out (no_day ds d.until b s parts.2 (omega arith))

one_day : (days : List Interval) (a b s : ℕ) → PartSeconds a b days → a ≤ s → s < b → count_by (λ j. is_in_day days j s) (range_with_len 0 (length days)) ≡ 1
one_day [] a b s parts l u = absurd (omega (arith, parts))
one_day (d ∷ ds) a b s parts l u =
    let begins : d.since ≡ a = parts.0 in
    let reached : nat_le d.since s ≡ true = le-leb d.since s (omega arith) in
    days_of_cons d ds s
    ∙ elim (cases_lt s d.until) [
      | inl before ↦
          let in_it : (nat_le d.since s && nat_lt s d.until) ≡ true = rw reached (lt-ltb s d.until before) in
          ap₂ (λ (t : Bool) (m : ℕ). cond t 1 0 + m) in_it (no_day ds d.until b s parts.2 before)
      | inr past ↦
          let out : (nat_le d.since s && nat_lt s d.until) ≡ false = and_right (nat_le d.since s) (nat_lt s d.until) (le-ltb s d.until past) in
          ap (λ (t : Bool). cond t 1 0 + count_by (λ j. is_in_day ds j s) (range_with_len 0 (length ds))) out
          ∙ zero-add (count_by (λ j. is_in_day ds j s) (range_with_len 0 (length ds)))
          ∙ one_day ds d.until b s parts.2 past u
    ]

-- ---- the whole
-- what holds of each second from a up to b
each_second : (P : ℕ → Type 0) (a b : ℕ) → ((s : ℕ) → a ≤ s → s < b → P s) → All P (seconds a b)
each_second P a b h = λ i d l.
    let long = length-range_with_len a (b - a) in
    let at = get_or-range_with_len a (b - a) i d (omega arith) in
    h (get_or (seconds a b) i d) (omega arith) (omega arith)

pub keys_add_up : AddUp
unfolding keys
keys_add_up net entries roll p Cause causes kept on parts =
    add_up (is_without_supply (is_deenergized net entries)) (λ k c s. has_key net entries p Cause k c s) (range_with_len 0 64) (seconds p.first p.end) roll
    (λ i d l j e m. one_cause net entries p (get_or roll j e) (get_or (seconds p.first p.end) i d) causes)
keys_add_up net entries roll p Feeder causes kept on parts =
    add_up (is_without_supply (is_deenergized net entries)) (λ k c s. has_key net entries p Feeder k c s) (range_with_len 1 255) (seconds p.first p.end) roll
    (λ i d l j e m. one_feeder_of (home_feeder net (get_or roll j e).section) (λ f is. home_in_range net (get_or roll j e).section f kept is) (on j e m))
keys_add_up net entries roll p Day causes kept on parts =
    add_up (is_without_supply (is_deenergized net entries)) (λ k c s. has_key net entries p Day k c s) (range_with_len 0 (length p.days)) (seconds p.first p.end) roll
    (each_second (λ s. All (λ c. count_by (λ k. is_in_day p.days k s) (range_with_len 0 (length p.days)) ≡ 1) roll) p.first p.end (λ s l u j e m. one_day p.days p.first p.end s parts l u))

-- ---- bounds
amount_bound : (net : Network) (entries : List Entry) (roll : List Customer) (p : Days) (dim : Dim) (key : ℕ) → length roll ≤ 100_000 → p.end < p.first + 2 ^ 25
    → customer_seconds_by net entries roll p dim key ≤ 2 ^ 25 * 100_000
amount_bound net entries roll p dim key few short =
    let each = sum_by-le (λ s. count_by (λ c. is_without_supply (is_deenergized net entries) c s && has_key net entries p dim key c s) roll) 100_000 (seconds p.first p.end)
    (λ i d l. omega (arith, count_by-le-length (λ c. is_without_supply (is_deenergized net entries) c (get_or (seconds p.first p.end) i d) && has_key net entries p dim key c (get_or (seconds p.first p.end) i d)) roll)) in
    let long : length (seconds p.first p.end) ≤ 2 ^ 25 = omega (arith, length-range_with_len p.first (p.end - p.first)) in
    omega (arith, each, mul-le-mul_right 100_000 long)

pub amounts_are_small : AmountsAreSmall
amounts_are_small net entries roll p dim key few short = omega (arith, amount_bound net entries roll p dim key few short)

pub totals_are_small : TotalsAreSmall
totals_are_small net entries roll p dim few short days =
    let each = sum_by-le (customer_seconds_by net entries roll p dim) (2 ^ 25 * 100_000) (keys (length p.days) dim)
    (λ i d l. amount_bound net entries roll p dim (get_or (keys (length p.days) dim) i d) few short) in
    omega (arith, each, mul-le-mul_right (2 ^ 25 * 100_000) (few_keys (length p.days) dim days))

pub totals_agree : TotalsAgree
totals_agree a amount dim h = same_sums (amount_of a dim) (amount dim) (day_count a) dim h

-- The sums over a book's rows under a cause, a feeder or a day are the book's amounts.
use Rattle.std.proofs.Common.{◌≡◌, ℕ, ◌+◌, ◌-◌, ◌*◌, ◌<◌, ◌≤◌, ◌==◌, ◌&&◌, Bool, true, false, cond, nat_le, nat_lt, min, max, Option, Some, suc, zero, refl, sym, ap, ap₂, ◌∙◌, inl, inr, arith, eq-eqb}
use Rattle.std.specs.List.{count_by, filter, prefix_len, range_with_len, slice_get, sum_by}
use Rattle.std.specs.Option.{option_and_then, option_map_or}
use Rattle.std.proofs.lemmas.Bool.{cases_Bool, cases_lt, and_parts}
use Rattle.std.proofs.lemmas.List.FromFn.{get_or-map-range_with_len, length-map-range_with_len}
use Rattle.std.proofs.lemmas.List.Sums.{sum_by-cons}
use Rattle.std.proofs.lemmas.Option.{slice_get-get_or}
use Rattle.ob_base.specs.Seconds.{intervals, interval_from, seconds, starts_at}
use Rattle.ob_base.specs.declared.interval.Interval.{Interval}
use Rattle.ob_net.specs.Network.{home_feeder}
use Rattle.ob_sheet.specs.Order.{cause_of}
use Rattle.ob_sheet.specs.Supply.{is_deenergized}
use Rattle.ob_cust.specs.Service.{in_service}
use Rattle.ob_cust.specs.WithoutSupply.{is_without_supply}
use Rattle.ob_cust.specs.declared.Customer.{Customer}
use Rattle.ob_cust.proofs.Ranges.{seconds_within}
use Rattle.ob_sweep.specs.Cutters.{cutter_at}
use Rattle.ob_sweep.specs.Runs.{History, history, start_of}
use Rattle.ob_time.specs.Calendar.{day_at, day_count, days_of, first_second_of, end_second_of}
use Rattle.ob_post.specs.CustomerSeconds.{has_key}
use Rattle.ob_post.specs.declared.Dim.{Dim}
use Rattle.ob_post.specs.declared.Dim.TheVariants.{Cause, Feeder, Day}
use Rattle.ob_post.proofs.RunParts.{holds_within, start_is, sum_of_parts}
use Rattle.ob_post.proofs.Sums.{sum_by-map, sum_of_passing, sum_of_same, swap_sums}
use Rattle.ob_index.specs.Interruptions.{duration, interruptions}
use Rattle.ob_state.specs.Amounts.{amount, days_of_book}
use Rattle.ob_state.specs.State.{BookState}
use Rattle.ob_state.specs.States.{IsSoundState}
use Rattle.ob_rows.specs.Rows.{interruption_rows, posted_cause, row_of, row_seconds, seconds_of_rows}
use Rattle.ob_rows.specs.RowLaws.{RowsAreByCause, RowsAreByDay, RowsAreByFeeder, seconds_on}
use Rattle.ob_rows.specs.Services.{Service, customers_with}
use Rattle.ob_rows.specs.declared.row.InterruptionRow.{InterruptionRow}
use Rattle.ob_rows.proofs.Adding.{over_customers}
use Rattle.ob_rows.proofs.Outages.{reaches}
use Rattle.ob_rows.proofs.RowLaws.{all_ones}

-- ---- sums over the intervals on which a test holds
-- over ranges on which a test is the same
same_ones : (p : ℕ → Bool) (x : Bool) (n s : ℕ) → ((t : ℕ) → s ≤ t → t < s + n → p t ≡ x) → sum_by (λ t. cond (p t) 1 0) (range_with_len s n) ≡ cond x n 0
same_ones p true n s h = all_ones p n s h
same_ones p false zero s h = refl
same_ones p false (suc n) s h =
    let here : cond {A = ℕ} (p s) 1 0 ≡ 0 = ap (λ (b : Bool). cond {A = ℕ} b 1 0) (h s (omega arith) (omega arith)) in
    omega (arith, sum_by-cons (λ t. cond (p t) 1 0) s (range_with_len (s + 1) n), here, same_ones p false n (s + 1) (λ t l u. h t (omega arith) (omega arith)))

-- over what passes in a range
same_passing : (f g : ℕ → ℕ) (p : ℕ → Bool) (n s : ℕ) → ((t : ℕ) → s ≤ t → p t ≡ true → f t ≡ g t) → sum_by f (filter p (range_with_len s n)) ≡ sum_by g (filter p (range_with_len s n))
same_passing f g p zero s h = refl
same_passing f g p (suc n) s h =
    let rest = same_passing f g p n (s + 1) (λ t l passes. h t (omega arith) passes) in
    elim (cases_Bool (p s)) [
      | inl passes ↦
          rw passes (sum_by-cons f s (filter p (range_with_len (s + 1) n)) ∙ ap₂ (λ (m k : ℕ). m + k) (h s (omega arith) passes) rest ∙ sym (sum_by-cons g s (filter p (range_with_len (s + 1) n))))
      | inr fails ↦ rw fails rest
    ]

same_on_range : (f g : ℕ → ℕ) (n s : ℕ) → ((t : ℕ) → s ≤ t → t < s + n → f t ≡ g t) → sum_by f (range_with_len s n) ≡ sum_by g (range_with_len s n)
same_on_range f g zero s h = refl
same_on_range f g (suc n) s h =
    sum_by-cons f s (range_with_len (s + 1) n)
    ∙ ap₂ (λ (m k : ℕ). m + k) (h s (omega arith) (omega arith)) (same_on_range f g n (s + 1) (λ t l u. h t (omega arith) (omega arith)))
    ∙ sym (sum_by-cons g s (range_with_len (s + 1) n))

module _ (test key : ℕ → Bool) (a b : ℕ) where
  abbrev both : ℕ → Bool
  both s = test s && key s

  abbrev own : ℕ → ℕ
  own t = sum_by (λ s. cond (both s) 1 0) (seconds t (t + prefix_len test (seconds t b)))

  -- the seconds with a key are those of the intervals, interval by interval
  by_intervals : (g : Interval → ℕ) → ((t : ℕ) → a ≤ t → starts_at test a t ≡ true → g (interval_from test b t) ≡ own t) → sum_by g (intervals test a b) ≡ count_by both (seconds a b)
  by_intervals g each =
      let one : ℕ → ℕ = λ s. cond (both s) 1 0 in
      let starts = filter (starts_at test a) (seconds a b) in
      sum_by-map g (interval_from test b) starts
      ∙ same_passing (λ t. g (interval_from test b t)) own (starts_at test a) (b - a) a each
      ∙ sym (sum_by-map (λ (i : Interval). sum_by one (seconds i.since i.until)) (interval_from test b) starts)
      ∙ sym (sum_of_parts one test a b (λ t off. ap (λ (c : Bool). cond {A = ℕ} (c && key t) 1 0) off))

  -- where the key is the same all through an interval
  pub one_key : ((s t : ℕ) → a ≤ s → s ≤ t → ((u : ℕ) → s ≤ u → u ≤ t → test u ≡ true) → key t ≡ key s) → sum_by (λ i. cond (key i.since) (duration i) 0) (intervals test a b) ≡ count_by both (seconds a b)
  one_key constant =
      by_intervals (λ i. cond (key i.since) (duration i) 0)
      (λ s low starts.
      let n = prefix_len test (seconds s b) in
      let long : s + n - s ≡ n = omega arith in
      let within : (t : ℕ) → s ≤ t → t < s + n → both t ≡ key s =
      λ t l u.
      let here = holds_within test b s t l u in
      rw here (constant s t low l (λ w m k. holds_within test b s w m (omega arith))) in
      ap (λ (k : ℕ). cond (key s) k 0) long ∙ sym (same_ones both (key s) n s within) ∙ ap (λ (k : ℕ). sum_by (λ t. cond (both t) 1 0) (range_with_len s k)) (sym long))

  -- where it is a range of seconds
  pub within_range : (lo hi : ℕ) → ((s : ℕ) → key s ≡ (nat_le lo s && nat_lt s hi)) → sum_by (λ (i : Interval). min i.until hi - max i.since lo) (intervals test a b) ≡ count_by both (seconds a b)
  within_range lo hi is =
      by_intervals (λ i. min i.until hi - max i.since lo)
      (λ s low starts.
      let n = prefix_len test (seconds s b) in
      let long : s + n - s ≡ n = omega arith in
      let turned : min (s + n) hi - max s lo ≡ min hi (s + n) - max lo s = omega arith in
      turned
      ∙ seconds_within lo hi s (s + n)
      ∙ same_on_range (λ t. cond (nat_le lo t && nat_lt t hi) 1 0) (λ t. cond (both t) 1 0) (s + n - s) s
      (λ t l u.
      let here = holds_within test b s t l (omega arith) in
      rw here (ap (λ (x : Bool). cond {A = ℕ} x 1 0) (sym (is t)))))

-- ---- the cause is the same all through an interval
-- a second at which a test holds lies behind a start
start_exists : (test : ℕ → Bool) (a n s : ℕ) → s ≡ a + n → test s ≡ true → (i : ℕ) × (a ≤ i) × (i ≤ s) × (starts_at test a i ≡ true) × ((u : ℕ) → i ≤ u → u ≤ s → test u ≡ true)
start_exists test a zero s is here =
    let same : (s == a) ≡ true = eq-eqb s a (omega (arith, is)) in
    (s, omega (arith, is), omega arith, rw here (rw same refl), λ u l k. ap test (omega (arith, l, k)) ∙ here)
start_exists test a (suc n) s is here = elim (cases_Bool (test (s - 1))) [
  | inl before ↦
      let more = start_exists test a n (s - 1) (omega (arith, is)) before in (
        more.0,
        more.1,
        omega (arith, more.2),
        more.3,
        λ u l k. elim (cases_lt u s) [
          | inl early ↦ more.4 u l (omega (arith, early))
          | inr late ↦ ap test (omega (arith, late, k)) ∙ here
        ],
      )
  | inr off ↦
      let starts : starts_at test a s ≡ true = rw here (rw off (elim (cases_Bool (s == a)) [ inl t ↦ rw t refl | inr f ↦ rw f refl ])) in
      (s, omega (arith, is), omega arith, starts, λ u l k. ap test (omega (arith, l, k)) ∙ here)
]

-- it is found from each second of the interval
found_from : (h : History) (a i t : ℕ) → a ≤ i → i ≤ t → starts_at h.deenergized a i ≡ true → ((u : ℕ) → i ≤ u → u ≤ t → h.deenergized u ≡ true) → start_of h a t ≡ Some i
found_from h a i t low le starts dark =
    let len = reaches h.deenergized (t + 1 - i) i (λ u l k. dark u l (omega arith)) in
    start_is h.deenergized a (t + 1) i t low starts le (omega (arith, len))

same_start : (h : History) (a s t : ℕ) → a ≤ s → s ≤ t → ((u : ℕ) → s ≤ u → u ≤ t → h.deenergized u ≡ true) → start_of h a t ≡ start_of h a s
same_start h a s t low le dark =
    let it = start_exists h.deenergized a (s - a) s (omega arith) (dark s (omega arith) le) in
    let first : it.0 ≤ s = it.2 in
    let all : (u : ℕ) → it.0 ≤ u → u ≤ t → h.deenergized u ≡ true = λ u l k. elim (cases_lt u s) [
      | inl early ↦ it.4 u l (omega (arith, early))
      | inr late ↦ dark u late k
    ] in
    found_from h a it.0 t it.1 (omega (arith, first, le)) it.3 all ∙ sym (found_from h a it.0 s it.1 first it.3 (λ u l k. all u l (omega (arith, k, le))))

-- ---- the amounts
module _ (b : BookState) (sound : IsSoundState b) where
  abbrev first : ℕ
  first = first_second_of b.period

  abbrev end : ℕ
  end = end_second_of b.period

  abbrev dark : Customer → ℕ → Bool
  dark c = is_without_supply (is_deenergized b.network b.entries) c

  abbrev keyed : Dim → ℕ → Customer → ℕ → Bool
  keyed dim key c = has_key b.network b.entries (days_of_book b) dim key c

  -- customer by customer, instead of second by second
  by_customers : (dim : Dim) (key : ℕ) → sum_by (λ c. count_by (λ s. dark c s && keyed dim key c s) (seconds first end)) b.customers ≡ amount b dim key
  by_customers dim key = swap_sums (λ (c : Customer) (s : ℕ). cond (dark c s && keyed dim key c s) 1 0) b.customers (seconds first end)

  -- sums of rows that pass by a test of the section and the first second
  abbrev passing : (ℕ → ℕ → Bool) → ℕ → Interval → ℕ
  passing passes v i = cond (passes v i.since) (duration i) 0

  times_passing : (t : Bool) (n k : ℕ) → cond t (n * k) 0 ≡ n * cond t k 0
  times_passing true n k = refl
  times_passing false n k = omega arith

  rows_that_pass : (test : InterruptionRow → Bool) (passes : ℕ → ℕ → Bool)
      → ((v feeder : ℕ) (s : Service) (i : Interval) → home_feeder b.network v ≡ Some feeder → test (row_of b v feeder s i) ≡ passes v i.since)
      → seconds_of_rows test (interruption_rows b) ≡ sum_by (λ c. sum_by (passing passes c.section) (interruptions b.network b.entries b.period c)) b.customers
  rows_that_pass test passes is =
      sym (sum_of_passing test row_seconds (interruption_rows b))
      ∙ over_customers b (λ r. cond (test r) (row_seconds r) 0) (passing passes)
      (λ v feeder s i home. ap (λ (t : Bool). cond t (customers_with b.customers v s * duration i) 0) (is v feeder s i home) ∙ times_passing (passes v i.since) (customers_with b.customers v s) (duration i))
      sound.state.sections

  same_cause : (code : ℕ) (c : Customer) (s t : ℕ) → first ≤ s → s ≤ t → ((u : ℕ) → s ≤ u → u ≤ t → dark c u ≡ true) → keyed Cause code c t ≡ keyed Cause code c s
  same_cause code c s t low le all =
      ap (λ (o : Option ℕ). option_map_or (cause_of b.entries) (option_and_then (cutter_at b.network b.entries c.section) o) 0 == code)
      (same_start (history b.network b.entries c.section) first s t low le (λ u l k. (and_parts (in_service c u) (is_deenergized b.network b.entries c.section u) (all u l k)).1))

  pub by_cause : (code : ℕ) → seconds_of_rows (λ r. r.cause == code) (interruption_rows b) ≡ amount b Cause code
  by_cause code =
      rows_that_pass (λ r. r.cause == code) (λ v s. posted_cause b v s == code) (λ v feeder s i home. refl)
      ∙ sum_of_same (λ c. sum_by (passing (λ v s. posted_cause b v s == code) c.section) (interruptions b.network b.entries b.period c))
      (λ c. count_by (λ s. dark c s && keyed Cause code c s) (seconds first end)) b.customers
      (λ c. one_key (dark c) (keyed Cause code c) first end (same_cause code c))
      ∙ by_customers Cause code

  pub by_feeder : (feeder : ℕ) → seconds_of_rows (λ r. r.feeder == feeder) (interruption_rows b) ≡ amount b Feeder feeder
  by_feeder feeder =
      let is_there : ℕ → Bool = λ v. option_map_or (λ f. f == feeder) (home_feeder b.network v) false in
      rows_that_pass (λ r. r.feeder == feeder) (λ v s. is_there v) (λ v f s i home. sym (ap (λ (o : Option ℕ). option_map_or (λ g. g == feeder) o false) home))
      ∙ sum_of_same (λ c. sum_by (passing (λ v s. is_there v) c.section) (interruptions b.network b.entries b.period c))
      (λ c. count_by (λ s. dark c s && keyed Feeder feeder c s) (seconds first end)) b.customers
      (λ c. one_key (dark c) (keyed Feeder feeder c) first end (λ s t low le all. refl))
      ∙ by_customers Feeder feeder

  day_listed : (day : ℕ) → day < day_count b.period → slice_get (days_of b.period) day ≡ Some (day_at b.period day)
  day_listed day l =
      slice_get-get_or (days_of b.period) day (day_at b.period day) (omega (arith, length-map-range_with_len (day_at b.period) 0 (day_count b.period)))
      ∙ ap (λ (d : Interval). Some d) (get_or-map-range_with_len (day_at b.period) 0 (day_count b.period) day day (day_at b.period day) l (omega arith))

  pub by_day : (day : ℕ) → day < day_count b.period → sum_by (λ r. r.customers * seconds_on b.period day r) (interruption_rows b) ≡ amount b Day day
  by_day day l =
      let lo = (day_at b.period day).since in
      let hi = (day_at b.period day).until in
      let clipped : Interval → ℕ = λ i. min i.until hi - max i.since lo in
      over_customers b (λ r. r.customers * seconds_on b.period day r) (λ v. clipped) (λ v feeder s i home. refl) sound.state.sections
      ∙ sum_of_same (λ c. sum_by clipped (interruptions b.network b.entries b.period c)) (λ c. count_by (λ s. dark c s && keyed Day day c s) (seconds first end)) b.customers
      (λ c. within_range (dark c) (keyed Day day c) first end lo hi (λ s. ap (λ (o : Option Interval). option_map_or (λ d. nat_le d.since s && nat_lt s d.until) o false) (day_listed day l)))
      ∙ by_customers Day day

pub rows_are_by_cause : RowsAreByCause
rows_are_by_cause b code sound = by_cause b sound code

pub rows_are_by_feeder : RowsAreByFeeder
rows_are_by_feeder b feeder sound = by_feeder b sound feeder

pub rows_are_by_day : RowsAreByDay
rows_are_by_day b day sound l = by_day b sound day l

-- Months: each second of the period, and so each interruption, is in one.
use Rattle.std.proofs.Common.{◌≡◌, ◌∙◌, ap, refl, sym, ℕ, ◌+◌, ◌-◌, ◌<◌, ◌≤◌, ◌&&◌, Bool, true, false, cond, nat_le, nat_lt, List, get_or, sum_by, count_by, Some, None, inl, inr, arith}
use Rattle.std.specs.List.{filter_map, range_with_len}
use Rattle.std.specs.Option.{option_map_or}
use Rattle.std.proofs.Math.Bool.{and-true}
use Rattle.std.proofs.lemmas.Bool.{and_from, and_parts, and_right, cases_Bool, le-leb, le-ltb, lt-leb, lt-ltb, leb-true, ltb-true}
use Rattle.std.proofs.lemmas.List.FromFn.{length-range_with_len}
use Rattle.std.proofs.lemmas.List.Sums.{prefix_len-le-length}
use Rattle.std.proofs.lemmas.Slice.Eq.{bytes_eq-Decides}
use Rattle.ob_base.specs.Seconds.{seconds}
use Rattle.ob_cust.specs.Service.{in_service}
use Rattle.ob_cust.specs.declared.Customer.{Customer}
use Rattle.ob_time.specs.Calendar.{IsCalendar, bound_of, day_count, first_second_of, end_second_of}
use Rattle.ob_post.proofs.Sums.{sum_of_passing, sum_of_same, sum_of_zeros, sum_where_same, swap_sums}
use Rattle.ob_index.specs.Interruptions.{is_counted}
use Rattle.ob_index.specs.declared.figures.Which.{Which}
use Rattle.ob_index.specs.declared.figures.Which.TheVariants.{All}
use Rattle.ob_state.specs.State.{BookState}
use Rattle.ob_selections.specs.Listed.{Keyed, begins_month, is_same_month, month_end, month_of, places_of, selection_at}
use Rattle.ob_selections.specs.Selections.{figures_of_selection, has_section, whole}
use Rattle.ob_selections.specs.SumLaws.{MonthsAddUp, PeriodsAddUp, among}
use Rattle.ob_selections.specs.Tallies.{service_on}
use Rattle.ob_selections.specs.declared.selection.By.TheVariants.{Month}
use Rattle.ob_selections.specs.declared.selection.Selection.{Selection}
use Rattle.ob_selections.proofs.Bounds.{bound_at_most}
use Rattle.ob_selections.proofs.DaySums.{in_period, later, lies_in, no_later}
use Rattle.ob_selections.proofs.Grouping.{Has, found, only}
use Rattle.ob_selections.proofs.Parting.{count_all, count_within, each_number, one_adds, parted, sum_of_found}
use Rattle.ob_selections.proofs.Shares.{IsOnce, begins, begun, hit, momentary_add_up, seconds_add_up, sustained_add_up}

-- a false test among others
first_off : (p r : Bool) → (p && (false && true && true && r)) ≡ false
first_off false r = refl
first_off true r = refl

module _ (b : BookState) where
  same_on : (i j k : ℕ) → is_same_month b i j ≡ true → is_same_month b j k ≡ true → is_same_month b i k ≡ true
  same_on i j k one two = (bytes_eq-Decides (month_of b i) (month_of b k)).1 ((bytes_eq-Decides (month_of b i) (month_of b j)).0 one ∙ (bytes_eq-Decides (month_of b j) (month_of b k)).0 two)

  same_back : (i j k : ℕ) → is_same_month b i j ≡ true → is_same_month b i k ≡ true → is_same_month b j k ≡ true
  same_back i j k one two = (bytes_eq-Decides (month_of b j) (month_of b k)).1 (sym ((bytes_eq-Decides (month_of b i) (month_of b j)).0 one) ∙ (bytes_eq-Decides (month_of b i) (month_of b k)).0 two)

  -- the month that begins on a day has another day
  abbrev InMonth : ℕ → ℕ → Type 0
  InMonth first d = Has (is_same_month b) (day_count b.period) same_on same_back first d

  end_within : (d : ℕ) → d < day_count b.period → month_end b d ≤ day_count b.period
  end_within d within =
      let few = prefix_len-le-length (is_same_month b d) (range_with_len (d + 1) (day_count b.period - (d + 1))) in
      let long = length-range_with_len (d + 1) (day_count b.period - (d + 1)) in
      omega (arith, few, long, within)

  -- the month that begins on a day has the second
  abbrev month_has : ℕ → ℕ → Bool
  month_has d s = nat_le (bound_of b.period d) s && nat_lt s (bound_of b.period (month_end b d))

  module _ (kept : IsCalendar b.period) where
    -- ---- the month of a second
    record Once (s : ℕ) : Type 0 where
      place : ℕ
      within : place < day_count b.period
      begins : begins_month b place ≡ true
      here : month_has place s ≡ true
      others : (j : ℕ) → j < day_count b.period → (j ≡ place → ⊥) → (begins_month b j && month_has j s) ≡ false

    out_of : (s d m j : ℕ) → bound_of b.period d ≤ s → s < bound_of b.period (d + 1) → d < day_count b.period → InMonth m d → j < day_count b.period → (j ≡ m → ⊥) → (begins_month b j && month_has j s) ≡ false
    out_of s d m j low high in_it month within apart = elim (cases_Bool (begins_month b j && month_has j s)) [
      | inl t ↦
          let first = and_parts (begins_month b j) (month_has j s) t in
          let parts = and_parts (nat_le (bound_of b.period j) s) (nat_lt s (bound_of b.period (month_end b j))) first.1 in
          let from = no_later b.period j d s kept (omega (arith, within)) (leb-true (bound_of b.period j) s parts.0) high in
          let to = later b.period (month_end b j) d s kept (omega (arith, in_it)) low (ltb-true s (bound_of b.period (month_end b j)) parts.1) in
          let other : InMonth j d = record { begins = first.0; low = from; high = to } in
          absurd (apart (only (is_same_month b) (day_count b.period) same_on same_back j m d other month))
      | inr f ↦ f
    ]

    month_once : (s : ℕ) → first_second_of b.period ≤ s → s < end_second_of b.period → Once s
    month_once s low high =
        let d = lies_in b.period (day_count b.period) s low high in
        let m = found (is_same_month b) (day_count b.period) same_on same_back d.day d.before in
        let first : ℕ = m.0 in
        let month : InMonth first d.day = m.1 in
        let before = d.before in
        let le = month.low in
        let start = bound_at_most b.period first d.day kept le (omega (arith, before)) in
        let end = bound_at_most b.period (d.day + 1) (month_end b first) kept (let lt = month.high in omega (arith, lt)) (end_within first (omega (arith, before, le))) in
        let from = d.low in
        let to = d.high in
        record {
          place = first;
          within = omega (arith, before, le);
          begins = month.begins;
          here = and_from (nat_le (bound_of b.period first) s) (nat_lt s (bound_of b.period (month_end b first))) (le-leb (bound_of b.period first) s (omega (arith, start, from))) (lt-ltb s (bound_of b.period (month_end b first)) (omega (arith, end, to)));
          others = λ j within apart. out_of s d.day first j from to before month within apart;
        }

    -- ---- seconds of the months
    abbrev seconds_of_period : List ℕ
    seconds_of_period = seconds (first_second_of b.period) (end_second_of b.period)

    abbrev days : List ℕ
    days = range_with_len 0 (day_count b.period)

    of_month : (p : ℕ → Bool) (d : ℕ) → d < day_count b.period
        → count_by p (seconds (bound_of b.period d) (bound_of b.period (month_end b d))) ≡ sum_by (λ s. cond (p s && month_has d s) 1 0) seconds_of_period
    of_month p d within =
        let low = bound_at_most b.period 0 d kept (omega arith) (omega (arith, within)) in
        let most = end_within d within in
        let some = bound_at_most b.period d (month_end b d) kept (omega arith) most in
        let high = bound_at_most b.period (month_end b d) (day_count b.period) kept most (omega arith) in
        count_within p (month_has d) (first_second_of b.period) (end_second_of b.period - first_second_of b.period) (bound_of b.period d) (bound_of b.period (month_end b d)) low some (omega (arith, low, some, high))
        (λ t l h. and_from (nat_le (bound_of b.period d) t) (nat_lt t (bound_of b.period (month_end b d))) (le-leb (bound_of b.period d) t l) (lt-ltb t (bound_of b.period (month_end b d)) h))
        (λ t l h. ap (λ (c : Bool). c && nat_lt t (bound_of b.period (month_end b d))) (lt-leb (bound_of b.period d) t h))
        (λ t h. and_right (nat_le (bound_of b.period d) t) (nat_lt t (bound_of b.period (month_end b d))) (le-ltb t (bound_of b.period (month_end b d)) h))

    month_adds : (p : ℕ → Bool) (d : ℕ) → d < day_count b.period
        → cond (begins_month b d) (count_by p (seconds (bound_of b.period d) (bound_of b.period (month_end b d)))) 0 ≡ sum_by (λ s. cond (p s && (begins_month b d && month_has d s)) 1 0) seconds_of_period
    month_adds p d within = elim (cases_Bool (begins_month b d)) [
      | inl t ↦ rw t (of_month p d within)
      | inr f ↦ rw f (sym (sum_of_same (λ s. cond (p s && false) 1 0) (λ s. 0) seconds_of_period (λ s. ap (λ (c : Bool). cond {A = ℕ} c 1 0) (and_right (p s) false refl)) ∙ sum_of_zeros seconds_of_period))
    ]

    once_at : (p : ℕ → Bool) (s : ℕ) → Once s → sum_by (λ d. cond (p s && (begins_month b d && month_has d s)) 1 0) days ≡ cond (p s) 1 0
    once_at p s once =
        let within = once.within in
        one_adds (λ d. cond (p s && (begins_month b d && month_has d s)) 1 0) 0 (day_count b.period) once.place (omega arith) (omega (arith, within))
        (λ j low high apart. ap (λ (c : Bool). cond {A = ℕ} c 1 0) (and_right (p s) (begins_month b j && month_has j s) (once.others j (omega (arith, high)) apart)))
        ∙ ap (λ (c : Bool). cond {A = ℕ} (p s && c) 1 0) (and_from (begins_month b once.place) (month_has once.place s) once.begins once.here)
        ∙ ap (λ (c : Bool). cond {A = ℕ} c 1 0) (and-true (p s))

    -- the seconds of the months that pass a test are those of the period
    months_part : (p : ℕ → Bool) → sum_by (λ d. cond (begins_month b d) (count_by p (seconds (bound_of b.period d) (bound_of b.period (month_end b d)))) 0) days ≡ count_by p seconds_of_period
    months_part p =
        sum_where_same (λ d. cond (begins_month b d) (count_by p (seconds (bound_of b.period d) (bound_of b.period (month_end b d)))) 0) (λ d. sum_by (λ s. cond (p s && (begins_month b d && month_has d s)) 1 0) seconds_of_period) days
        (each_number (λ d. cond (begins_month b d) (count_by p (seconds (bound_of b.period d) (bound_of b.period (month_end b d)))) 0 ≡ sum_by (λ s. cond (p s && (begins_month b d && month_has d s)) 1 0) seconds_of_period) 0 (day_count b.period)
        (λ d low high. month_adds p d (omega (arith, high))))
        ∙ swap_sums (λ d s. cond (p s && (begins_month b d && month_has d s)) 1 0) days seconds_of_period
        ∙ sum_where_same (λ s. sum_by (λ d. cond (p s && (begins_month b d && month_has d s)) 1 0) days) (λ s. cond (p s) 1 0) seconds_of_period
        (each_number (λ s. sum_by (λ d. cond (p s && (begins_month b d && month_has d s)) 1 0) days ≡ cond (p s) 1 0) (first_second_of b.period) (end_second_of b.period - first_second_of b.period)
        (λ s low high. once_at p s (month_once s low (omega (arith, low, high)))))

    module _ (which : Which) (longest : ℕ) where
      abbrev key : ℕ → Keyed
      key d = (month_of b d, record (whole b All longest) { first = d; end = month_end b d })

      -- ---- interruptions
      -- the tests of an interruption, where that of its days gives this
      abbrev tests : Customer → ℕ → Bool → Bool
      tests c s t = begins b which longest c s && (t && true && true && is_counted b.period b.marks which (begun b which longest c s))

      off : (c : Customer) (s j : ℕ) (t : Bool) → (t && month_has j s) ≡ false → hit b which longest c s (cond t (Some (key j)) None) ≡ false
      off c s j false out = refl
      off c s j true out = ap (tests c s) out ∙ first_off (begins b which longest c s) (is_counted b.period b.marks which (begun b which longest c s))

      once : (c : Customer) (s : ℕ) → first_second_of b.period ≤ s → s < end_second_of b.period → IsOnce b which longest (selection_at b Month longest) (places_of b Month) c s
      once c s low high =
          let m = month_once s low high in
          record {
            place = m.place;
            within = m.within;
            here = ap (λ (t : Bool). hit b which longest c s (cond t (Some (key m.place)) None)) m.begins ∙ ap (tests c s) m.here ∙ sym (ap (tests c s) (in_period b which longest s low high));
            others = λ j within apart. off c s j (begins_month b j) (m.others j within apart);
          }

      -- ---- service and length
      length_share : (t : Bool) (d : ℕ) → option_map_or (λ k. (figures_of_selection b (among which longest k)).length) (cond t (Some (key d)) None) 0 ≡ cond t (count_by (λ s. true) (seconds (bound_of b.period d) (bound_of b.period (month_end b d)))) 0
      length_share false d = refl
      length_share true d = sym (count_all (bound_of b.period d) (bound_of b.period (month_end b d) - bound_of b.period d))

      lengths : sum_by (λ k. (figures_of_selection b (among which longest k)).length) (filter_map (selection_at b Month longest) days) ≡ (figures_of_selection b (whole b which longest)).length
      lengths =
          sum_of_found (selection_at b Month longest) (λ k. (figures_of_selection b (among which longest k)).length) days
          ∙ sum_of_same (λ d. option_map_or (λ k. (figures_of_selection b (among which longest k)).length) (selection_at b Month longest d) 0) (λ d. cond (begins_month b d) (count_by (λ s. true) (seconds (bound_of b.period d) (bound_of b.period (month_end b d)))) 0) days (λ d. length_share (begins_month b d) d)
          ∙ months_part (λ s. true)
          ∙ count_all (first_second_of b.period) (end_second_of b.period - first_second_of b.period)

      abbrev service : Selection → Customer → ℕ
      service x c = cond (has_section b x c.section) (service_on b x c) 0

      service_is : (x : Selection) → (figures_of_selection b x).served ≡ sum_by (service x) b.customers
      service_is x = sym (sum_of_passing (λ (c : Customer). has_section b x c.section) (service_on b x) b.customers)

      service_share : (t : Bool) (d : ℕ) (c : Customer) → option_map_or (λ k. service (among which longest k) c) (cond t (Some (key d)) None) 0 ≡ cond t (count_by (in_service c) (seconds (bound_of b.period d) (bound_of b.period (month_end b d)))) 0
      service_share false d c = refl
      service_share true d c = refl

      services : sum_by (λ k. (figures_of_selection b (among which longest k)).served) (filter_map (selection_at b Month longest) days) ≡ (figures_of_selection b (whole b which longest)).served
      services =
          sum_of_same (λ k. (figures_of_selection b (among which longest k)).served) (λ k. sum_by (service (among which longest k)) b.customers) (filter_map (selection_at b Month longest) days) (λ k. service_is (among which longest k))
          ∙ parted (selection_at b Month longest) (λ k c. service (among which longest k) c) (λ c. service (whole b which longest) c) days b.customers
          (λ i e l.
          let c = get_or b.customers i e in
          sum_of_same (λ d. option_map_or (λ k. service (among which longest k) c) (selection_at b Month longest d) 0) (λ d. cond (begins_month b d) (count_by (in_service c) (seconds (bound_of b.period d) (bound_of b.period (month_end b d)))) 0) days (λ d. service_share (begins_month b d) d c)
          ∙ months_part (in_service c))
          ∙ sym (service_is (whole b which longest))

      pub months : PeriodsAddUp b Month which longest
      months = record {
        interruptions = record {
          sustained = sustained_add_up b which longest (selection_at b Month longest) (places_of b Month) once;
          seconds = seconds_add_up b which longest (selection_at b Month longest) (places_of b Month) once;
          momentary = momentary_add_up b which longest (selection_at b Month longest) (places_of b Month) once;
        };
        served = services;
        length = lengths;
      }

pub months_add_up : MonthsAddUp
months_add_up b which longest kept = months b kept which longest

-- What the selections of a list have of what the whole book has.
use Rattle.std.proofs.Common.{◌≡◌, ◌∙◌, ap, refl, sym, ℕ, ◌-◌, ◌<◌, ◌≤◌, ◌&&◌, Bool, true, false, not, cond, List, [], ◌∷◌, get_or, sum_by, count_by, Option, Some, None, IfSome, inl, inr, arith}
use Rattle.std.specs.List.{All, cons_option, filter, filter_map, range_with_len}
use Rattle.std.specs.Option.{option_map_or}
use Rattle.std.proofs.lemmas.Bool.{cases_Bool}
use Rattle.std.proofs.lemmas.List.Elements.{All-cons, All-nil}
use Rattle.ob_base.specs.Seconds.{interval_from, seconds, starts_at}
use Rattle.ob_base.specs.declared.interval.Interval.{Interval}
use Rattle.ob_sheet.specs.Supply.{is_deenergized}
use Rattle.ob_cust.specs.Service.{in_service}
use Rattle.ob_cust.specs.WithoutSupply.{is_without_supply}
use Rattle.ob_cust.specs.declared.Customer.{Customer}
use Rattle.ob_time.specs.Calendar.{first_second_of, end_second_of}
use Rattle.ob_post.proofs.Sums.{sum_of_passing, sum_of_same, sum_of_zeros}
use Rattle.ob_index.specs.Interruptions.{duration}
use Rattle.ob_index.specs.declared.figures.Which.{Which}
use Rattle.ob_state.specs.State.{BookState}
use Rattle.ob_selections.specs.Listed.{Keyed}
use Rattle.ob_selections.specs.Selections.{days_of_selection, figures_of_selection, has_section, is_selected, lasts_longer, selected, whole}
use Rattle.ob_selections.specs.SumLaws.{among}
use Rattle.ob_selections.specs.Tallies.{service_on}
use Rattle.ob_selections.specs.declared.selection.Selection.{Selection}
use Rattle.ob_selections.proofs.Parting.{each_number, found_same, one_adds, over_numbers, parted, parted_at}

-- ---- what holds of all that is found
more_hold : {X : Type 0} (P : X → Type 0) (o : Option X) (xs : List X) → IfSome o P → All P xs → All P (cons_option o xs)
more_hold P None xs h rest = rest
more_hold P (Some x) xs h rest = All-cons P x xs h rest

pub found_hold : {X : Type 0} (P : X → Type 0) (h : ℕ → Option X) (ns : List ℕ) → ((n : ℕ) → IfSome (h n) P) → All P (filter_map h ns)
found_hold P h [] each = All-nil P
found_hold P h (n ∷ ns) each = more_hold P (h n) (filter_map h ns) (each n) (found_hold P h ns each)

module _ (b : BookState) (which : Which) (longest : ℕ) where
  -- the selection of all
  abbrev pub all : Selection
  all = whole b which longest

  -- the selection of what was found
  abbrev pub of : Keyed → Selection
  of keyed = among which longest keyed

  -- ---- an interruption begins at a second
  abbrev pub begins : Customer → ℕ → Bool
  begins c s = starts_at (is_without_supply (is_deenergized b.network b.entries) c) (first_second_of b.period) s

  abbrev pub begun : Customer → ℕ → Interval
  begun c s = interval_from (is_without_supply (is_deenergized b.network b.entries) c) (end_second_of b.period) s

  abbrev pub period : List ℕ
  period = seconds (first_second_of b.period) (end_second_of b.period)

  -- one begins there that the selection has
  abbrev pub has : Selection → Customer → ℕ → Bool
  has x c s = has_section b x c.section && (begins c s && is_selected b x c.section (begun c s))

  -- a sum over the interruptions of a customer that are selected, second by second
  by_seconds : (x : Selection) (c : Customer) (w : Interval → ℕ) → sum_by w (selected b x c) ≡ sum_by (λ s. cond (has x c s) (w (begun c s)) 0) period
  by_seconds x c w = elim (cases_Bool (has_section b x c.section)) [
    | inl t ↦ rw t (over_numbers (begun c) (begins c) (is_selected b x c.section) w period)
    | inr f ↦ rw f (sym (sum_of_zeros period))
  ]

  -- the selection that is found has it
  abbrev pub hit : Customer → ℕ → Option Keyed → Bool
  hit c s found = option_map_or (λ k. has (of k) c s) found false

  hit_adds : (found : Option Keyed) (c : Customer) (s w : ℕ) → option_map_or (λ k. cond (has (of k) c s) w 0) found 0 ≡ cond (hit c s found) w 0
  hit_adds None c s w = refl
  hit_adds (Some k) c s w = refl

  module _ (h : ℕ → Option Keyed) (count : ℕ) where
    abbrev pub numbers : List ℕ
    numbers = range_with_len 0 count

    -- ---- interruptions, each of which one of the selections has
    -- what begins at the second is in one selection where it is in the whole
    pub record IsOnce (c : Customer) (s : ℕ) : Type 0 where
      pub place : ℕ
      pub within : place < count
      pub here : hit c s (h place) ≡ has all c s
      pub others : (j : ℕ) → j < count → (j ≡ place → ⊥) → hit c s (h j) ≡ false

    once_adds : (c : Customer) (s w : ℕ) → IsOnce c s → sum_by (λ n. option_map_or (λ k. cond (has (of k) c s) w 0) (h n) 0) numbers ≡ cond (has all c s) w 0
    once_adds c s w once =
        let within = once.within in
        one_adds (λ n. option_map_or (λ k. cond (has (of k) c s) w 0) (h n) 0) 0 count once.place (omega arith) (omega (arith, within))
        (λ j low high apart. hit_adds (h j) c s w ∙ ap (λ (t : Bool). cond {A = ℕ} t w 0) (once.others j (omega (arith, high)) apart))
        ∙ hit_adds (h once.place) c s w
        ∙ ap (λ (t : Bool). cond {A = ℕ} t w 0) once.here

    module _ (once : (c : Customer) (s : ℕ) → first_second_of b.period ≤ s → s < end_second_of b.period → IsOnce c s) where
      -- a sum over the interruptions of a customer
      of_customer : (w : Interval → ℕ) (number : List Interval → ℕ) → ((is : List Interval) → number is ≡ sum_by w is) → (c : Customer)
          → sum_by (λ n. option_map_or (λ k. number (selected b (of k) c)) (h n) 0) numbers ≡ number (selected b all c)
      of_customer w number is c =
          sum_of_same (λ n. option_map_or (λ k. number (selected b (of k) c)) (h n) 0) (λ n. option_map_or (λ k. sum_by (λ s. cond (has (of k) c s) (w (begun c s)) 0) period) (h n) 0) numbers
          (λ n. found_same (λ k. number (selected b (of k) c)) (λ k. sum_by (λ s. cond (has (of k) c s) (w (begun c s)) 0) period) (h n) (λ k. is (selected b (of k) c) ∙ by_seconds (of k) c w))
          ∙ parted_at h (λ k s. cond (has (of k) c s) (w (begun c s)) 0) (λ s. cond (has all c s) (w (begun c s)) 0) numbers period
          (each_number (λ s. sum_by (λ n. option_map_or (λ k. cond (has (of k) c s) (w (begun c s)) 0) (h n) 0) numbers ≡ cond (has all c s) (w (begun c s)) 0) (first_second_of b.period) (end_second_of b.period - first_second_of b.period)
          (λ s low high. once_adds c s (w (begun c s)) (once c s low (omega (arith, low, high)))))
          ∙ sym (by_seconds all c w)
          ∙ sym (is (selected b all c))

      of_all : (w : Interval → ℕ) (number : List Interval → ℕ) → ((is : List Interval) → number is ≡ sum_by w is)
          → sum_by (λ k. sum_by (λ c. number (selected b (of k) c)) b.customers) (filter_map h numbers) ≡ sum_by (λ c. number (selected b all c)) b.customers
      of_all w number is =
          parted h (λ k c. number (selected b (of k) c)) (λ c. number (selected b all c)) numbers b.customers (λ i d l. of_customer w number is (get_or b.customers i d))

      pub sustained_add_up : sum_by (λ k. sum_by (λ c. count_by (lasts_longer longest) (selected b (of k) c)) b.customers) (filter_map h numbers)
          ≡ sum_by (λ c. count_by (lasts_longer longest) (selected b all c)) b.customers
      sustained_add_up = of_all (λ i. cond (lasts_longer longest i) 1 0) (count_by (lasts_longer longest)) (λ is. refl)

      pub seconds_add_up : sum_by (λ k. sum_by (λ c. sum_by duration (filter (lasts_longer longest) (selected b (of k) c))) b.customers) (filter_map h numbers)
          ≡ sum_by (λ c. sum_by duration (filter (lasts_longer longest) (selected b all c))) b.customers
      seconds_add_up =
          of_all (λ i. cond (lasts_longer longest i) (duration i) 0) (λ is. sum_by duration (filter (lasts_longer longest) is)) (λ is. sym (sum_of_passing (lasts_longer longest) duration is))

      pub momentary_add_up : sum_by (λ k. sum_by (λ c. count_by (λ i. not (lasts_longer longest i)) (selected b (of k) c)) b.customers) (filter_map h numbers)
          ≡ sum_by (λ c. count_by (λ i. not (lasts_longer longest i)) (selected b all c)) b.customers
      momentary_add_up = of_all (λ i. cond (not (lasts_longer longest i)) 1 0) (count_by (λ i. not (lasts_longer longest i))) (λ is. refl)

    -- ---- customers, each of whom one of the selections has
    -- one selection has the customer, with all interruptions
    pub record IsOneOf (c : Customer) : Type 0 where
      pub place : ℕ
      pub within : place < count
      pub key : Keyed
      pub found : h place ≡ Some key
      pub has : has_section b (of key) c.section ≡ true
      pub same : selected b (of key) c ≡ selected b all c
      pub days : days_of_selection b (of key) ≡ days_of_selection b all
      pub others : (j : ℕ) → j < count → (j ≡ place → ⊥) → option_map_or (λ k. has_section b (of k) c.section) (h j) false ≡ false

    left_out : (g : Selection → ℕ) (c : Customer) → ((x : Selection) → has_section b x c.section ≡ false → g x ≡ 0)
        → (o : Option Keyed) → option_map_or (λ k. has_section b (of k) c.section) o false ≡ false → option_map_or (λ k. g (of k)) o 0 ≡ 0
    left_out g c zeros None off = refl
    left_out g c zeros (Some k) off = zeros (of k) off

    -- a number of each customer, 0 where the selection doesn't have it
    pub customers_add_up : (g : Selection → Customer → ℕ) → ((x : Selection) (c : Customer) → has_section b x c.section ≡ false → g x c ≡ 0)
        → ((c : Customer) (one : IsOneOf c) → g (of one.key) c ≡ g all c) → All IsOneOf b.customers
        → sum_by (λ k. sum_by (λ c. g (of k) c) b.customers) (filter_map h numbers) ≡ sum_by (λ c. g all c) b.customers
    customers_add_up g zeros same each =
        parted h (λ k c. g (of k) c) (λ c. g all c) numbers b.customers
        (λ i d l.
        let c = get_or b.customers i d in
        let one = each i d l in
        let within = one.within in
        one_adds (λ n. option_map_or (λ k. g (of k) c) (h n) 0) 0 count one.place (omega arith) (omega (arith, within))
        (λ j low high apart. left_out (λ x. g x c) c (λ x off. zeros x c off) (h j) (one.others j (omega (arith, high)) apart))
        ∙ ap (λ (o : Option Keyed). option_map_or (λ k. g (of k) c) o 0) one.found
        ∙ same c one)

    unselected : (x : Selection) (c : Customer) → has_section b x c.section ≡ false → selected b x c ≡ []
    unselected x c off = rw off refl

    -- a number of the interruptions of each
    pub numbers_add_up : (number : List Interval → ℕ) → number [] ≡ 0 → All IsOneOf b.customers
        → sum_by (λ k. sum_by (λ c. number (selected b (of k) c)) b.customers) (filter_map h numbers) ≡ sum_by (λ c. number (selected b all c)) b.customers
    numbers_add_up number none each =
        customers_add_up (λ x c. number (selected b x c)) (λ x c off. ap number (unselected x c off) ∙ none) (λ c one. ap number one.same) each

    -- the seconds in service
    service_is : (x : Selection) → (figures_of_selection b x).served ≡ sum_by (λ c. cond (has_section b x c.section) (service_on b x c) 0) b.customers
    service_is x = sym (sum_of_passing (λ (c : Customer). has_section b x c.section) (service_on b x) b.customers)

    pub service_adds_up : All IsOneOf b.customers → sum_by (λ k. (figures_of_selection b (of k)).served) (filter_map h numbers) ≡ (figures_of_selection b all).served
    service_adds_up each =
        sum_of_same (λ k. (figures_of_selection b (of k)).served) (λ k. sum_by (λ c. cond (has_section b (of k) c.section) (service_on b (of k) c) 0) b.customers) (filter_map h numbers) (λ k. service_is (of k))
        ∙ customers_add_up (λ x c. cond (has_section b x c.section) (service_on b x c) 0) (λ x c off. rw off refl)
        (λ c one. rw one.has (ap (λ (i : Interval). count_by (in_service c) (seconds i.since i.until)) one.days)) each
        ∙ sym (service_is all)

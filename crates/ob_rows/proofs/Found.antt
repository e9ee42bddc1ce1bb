-- The rows of a customer's section and service are its interruptions.
use Rattle.std.proofs.Common.{◌≡◌, ℕ, ◌+◌, ◌<◌, ◌≤◌, ◌==◌, ◌&&◌, Bool, true, false, cond, nat_eq, nat_le, List, [], ◌∷◌, ◌++◌, Option, Some, None, IsSome, is_some, length, map, get_or, suc, zero, refl, sym, ap, ap₂, subst, ◌∙◌, inl, inr, arith, eq-eqb}
use Rattle.std.specs.List.{filter, flat_map, range_with_len}
use Rattle.std.specs.Option.{option_eq, option_map_or}
use Rattle.std.proofs.lemmas.Bool.{cases_Bool, cases_eq, ne_eqb, true≢false}
use Rattle.std.proofs.lemmas.List.{append-nil}
use Rattle.std.proofs.lemmas.List.Elements.{filter-append}
use Rattle.std.proofs.lemmas.List.FromFn.{get_or-map-range_with_len}
use Rattle.ob_base.specs.declared.interval.Interval.{Interval}
use Rattle.ob_net.specs.Network.{home_feeder}
use Rattle.ob_cust.specs.Blocks.{has_service}
use Rattle.ob_cust.specs.declared.Customer.{Customer}
use Rattle.ob_cust.proofs.Order.{is_same, same_test, test_from_apart, once_from_before}
use Rattle.ob_sweep.proofs.Related.{section_is_node}
use Rattle.ob_index.specs.Counts.{interrupted}
use Rattle.ob_index.specs.Interruptions.{counted, interruptions, is_counted, is_sustained}
use Rattle.ob_index.specs.declared.figures.Which.{Which}
use Rattle.ob_index.specs.declared.figures.Which.TheVariants.{All, Unmarked}
use Rattle.ob_post.proofs.Sums.{sum_where_same}
use Rattle.ob_state.specs.State.{BookState}
use Rattle.ob_state.specs.States.{IsSoundState}
use Rattle.ob_rows.specs.RowLaws.{CustomersOfRowsAreCounted, RowsAreInterruptions, is_among, is_row_of, is_sustained_among}
use Rattle.ob_rows.specs.Rows.{customer_with, interruption_rows, interval_of, row_of, rows_of_node, rows_of_service}
use Rattle.ob_rows.specs.Services.{Service, services_of}
use Rattle.ob_rows.specs.declared.row.InterruptionRow.{InterruptionRow}
use Rattle.ob_rows.proofs.Adding.{own_service}
use Rattle.ob_rows.proofs.Services.{IsAmong, IsBeforeAll, Rise, before_among, rise_services}

-- ---- lists of which one piece alone has something
pub filter_pieces : {X A : Type 0} (p : A → Bool) (f : X → List A) (xs : List X) → filter p (flat_map f xs) ≡ flat_map (λ x. filter p (f x)) xs
filter_pieces p f [] = refl
filter_pieces {A = A} p f (x ∷ xs) = filter-append p (f x) (flat_map f xs) ∙ ap (λ (l : List A). filter p (f x) ++ l) (filter_pieces p f xs)

no_number : {A : Type 0} (g : ℕ → List A) (k a n : ℕ) → k < a → ((v : ℕ) → (k == v) ≡ false → g v ≡ []) → flat_map g (range_with_len a n) ≡ []
no_number g k a zero l off = refl
no_number {A = A} g k a (suc n) l off = ap₂ (λ (l m : List A). l ++ m) (off a (ne_eqb k a (λ e. omega (arith, e)))) (no_number g k (a + 1) n (omega arith) off)

one_number : {A : Type 0} (g : ℕ → List A) (k a n : ℕ) → a ≤ k → k < a + n → ((v : ℕ) → (k == v) ≡ false → g v ≡ []) → flat_map g (range_with_len a n) ≡ g k
one_number g k a zero low high off = absurd (omega arith)
one_number {A = A} g k a (suc n) low high off = elim (cases_eq k a) [
  | inl same ↦ ap₂ (λ (l m : List A). l ++ m) (ap g (sym same)) (no_number g k (a + 1) n (omega arith) off) ∙ append-nil (g k)
  | inr apart ↦ ap₂ (λ (l m : List A). l ++ m) (off a (ne_eqb k a apart)) (one_number g k (a + 1) n (omega arith) (omega arith) off)
]

no_service : {A : Type 0} (g : Service → List A) (u : Service) (ts : List Service) → IsBeforeAll u ts → ((t : Service) → is_same u t ≡ false → g t ≡ []) → flat_map g ts ≡ []
no_service g u [] all off = refl
no_service {A = A} g u (t ∷ ts) all off = ap₂ (λ (l m : List A). l ++ m) (off t (test_from_apart u t (once_from_before u t all.0))) (no_service g u ts all.1 off)

one_service : {A : Type 0} (g : Service → List A) (u : Service) (ts : List Service) → Rise ts → IsAmong u ts → ((t : Service) → is_same u t ≡ false → g t ≡ []) → flat_map g ts ≡ g u
one_service g u [] rise a off = elim a [ ]
one_service {A = A} g u (t ∷ ts) rise (inl same) off =
    ap₂ (λ (l m : List A). l ++ m) (ap g (sym same)) (no_service g u ts (subst (λ (w : Service). IsBeforeAll w ts) (sym same) rise.0) off) ∙ append-nil (g u)
one_service {A = A} g u (t ∷ ts) rise (inr more) off =
    let before = before_among t u ts rise.0 more in
    ap₂ (λ (l m : List A). l ++ m) (off t (test_from_apart u t (λ p q. once_from_before t u before (sym p) (sym q)))) (one_service g u ts rise.1 more off)

-- ---- the rows of a customer
module _ (b : BookState) (c : Customer) where
  own_rows : (v feeder : ℕ) (s : Service) (is : List Interval) (t : Bool) → has_service v s.0 s.1 c ≡ t → filter (is_row_of c) (map (row_of b v feeder s) is) ≡ cond t (map (row_of b v feeder s) is) []
  own_rows v feeder s [] true has = refl
  own_rows v feeder s [] false has = refl
  own_rows v feeder s (i ∷ is) true has = rw has (ap (λ (rows : List InterruptionRow). row_of b v feeder s i ∷ rows) (own_rows v feeder s is true has))
  own_rows v feeder s (i ∷ is) false has = rw has (own_rows v feeder s is false has)

  intervals_back : (v feeder : ℕ) (s : Service) (is : List Interval) → map interval_of (map (row_of b v feeder s) is) ≡ is
  intervals_back v feeder s [] = refl
  intervals_back v feeder s (i ∷ is) = ap (λ (js : List Interval). i ∷ js) (intervals_back v feeder s is)

  elsewhere : (v : ℕ) (s : Service) → (c.section == v) ≡ false → has_service v s.0 s.1 c ≡ false
  elsewhere v s off = ap (λ (t : Bool). (t && c.since == s.0) && option_eq nat_eq c.until s.1) off

  here : (s : Service) → has_service c.section s.0 s.1 c ≡ is_same (c.since, c.until) s
  here s = ap (λ (t : Bool). (t && c.since == s.0) && option_eq nat_eq c.until s.1) (eq-eqb c.section c.section refl)

  none_elsewhere : (v : ℕ) (o : Option ℕ) → (c.section == v) ≡ false
      → filter (is_row_of c) (option_map_or (λ feeder. flat_map (rows_of_service b v feeder) (services_of v b.customers)) o []) ≡ []
  none_elsewhere v None off = refl
  none_elsewhere v (Some feeder) off =
      filter_pieces (is_row_of c) (rows_of_service b v feeder) (services_of v b.customers) ∙ all_empty (services_of v b.customers)
    where
      all_empty : (ts : List Service) → flat_map (λ s. filter (is_row_of c) (rows_of_service b v feeder s)) ts ≡ []
      all_empty [] = refl
      all_empty (s ∷ ts) =
          ap₂ (λ (l m : List InterruptionRow). l ++ m) (own_rows v feeder s (interruptions b.network b.entries b.period (customer_with v s)) false (elsewhere v s off)) (all_empty ts)

  -- what the customer's rows are
  abbrev pub own : ℕ → List InterruptionRow
  own feeder = map (row_of b c.section feeder (c.since, c.until)) (interruptions b.network b.entries b.period c)

  at_home : (feeder : ℕ) → home_feeder b.network c.section ≡ Some feeder → IsAmong (c.since, c.until) (services_of c.section b.customers) → filter (is_row_of c) (rows_of_node b c.section) ≡ own feeder
  at_home feeder home there =
      let v = c.section in
      let u : Service = (c.since, c.until) in
      let kept : Service → List InterruptionRow = λ s. filter (is_row_of c) (rows_of_service b v feeder s) in
      ap (λ (o : Option ℕ). filter (is_row_of c) (option_map_or (λ f. flat_map (rows_of_service b v f) (services_of v b.customers)) o [])) home
      ∙ filter_pieces (is_row_of c) (rows_of_service b v feeder) (services_of v b.customers)
      ∙ one_service kept u (services_of v b.customers) (rise_services v b.customers) there (λ t apart. own_rows v feeder t (interruptions b.network b.entries b.period (customer_with v t)) false (here t ∙ apart))
      ∙ own_rows v feeder u (interruptions b.network b.entries b.period (customer_with v u)) true (here u ∙ same_test u)

  own_from : (o : Option ℕ) → home_feeder b.network c.section ≡ o → IsSome o → IsAmong (c.since, c.until) (services_of c.section b.customers)
      → (feeder : ℕ) × (filter (is_row_of c) (interruption_rows b) ≡ own feeder)
  own_from None home some there = absurd (true≢false (sym some))
  own_from (Some feeder) home some there = (
    feeder,
    filter_pieces (is_row_of c) (rows_of_node b) (range_with_len 0 (length b.network.nodes))
        ∙ one_number (λ v. filter (is_row_of c) (rows_of_node b v)) c.section 0 (length b.network.nodes) (omega arith)
        (let below = section_is_node b.network c.section (ap (λ (o : Option ℕ). is_some o) home) in omega (arith, below)) (λ v off. none_elsewhere v (home_feeder b.network v) off)
        ∙ at_home feeder home there,
  )

-- the rows of a customer of the roll
rows_of_customer : (b : BookState) → IsSoundState b → (k : ℕ) (d : Customer) → k < length b.customers
    → (feeder : ℕ) × (filter (is_row_of (get_or b.customers k d)) (interruption_rows b) ≡ own b (get_or b.customers k d) feeder)
rows_of_customer b sound k d l =
    let c = get_or b.customers k d in
    own_from b c (home_feeder b.network c.section) refl (sound.state.sections k d l) (own_service c.section b.customers k d l (eq-eqb c.section c.section refl))

pub rows_are_interruptions : RowsAreInterruptions
rows_are_interruptions b sound k d l =
    let c = get_or b.customers k d in
    let rows = rows_of_customer b sound k d l in
    ap (map interval_of) rows.1 ∙ intervals_back b c c.section rows.0 (c.since, c.until) (interruptions b.network b.entries b.period c)

-- ---- how many have n or more
kept_twice : {X Y : Type 0} (g : X → Y) (q : Y → Bool) (p r : X → Bool) → ((x : X) → q (g x) ≡ (p x && r x)) → (xs : List X) → length (filter q (map g xs)) ≡ length (filter r (filter p xs))
kept_twice g q p r same [] = refl
kept_twice g q p r same (x ∷ xs) =
    let rest = kept_twice g q p r same xs in
    elim (cases_Bool (p x)) [
      | inl first ↦ elim (cases_Bool (r x)) [
        | inl then ↦ rw (same x, first, then) (ap suc rest)
        | inr not ↦ rw (same x, first, not) rest
      ]
      | inr not ↦ rw (same x, not) rest
    ]

among_is : (b : BookState) (which : Which) (v feeder : ℕ) (s : Service) (i : Interval) → is_among which (row_of b v feeder s i) ≡ is_counted b.period b.marks which i
among_is b All v feeder s i = refl
among_is b Unmarked v feeder s i = refl

pub rows_are_interrupted : CustomersOfRowsAreCounted
rows_are_interrupted b which n sound few =
    sum_where_same (λ c. cond (nat_le (1 + n) (length (filter (is_sustained_among which) (filter (is_row_of c) (interruption_rows b))))) 1 0)
    (λ c. cond (nat_le (1 + n) (length (filter is_sustained (counted b.network b.entries b.period b.marks which c)))) 1 0) b.customers
    (λ k d l.
    let c = get_or b.customers k d in
    let rows = rows_of_customer b sound k d l in
    let g : Interval → InterruptionRow = row_of b c.section rows.0 (c.since, c.until) in
    ap (λ (m : ℕ). cond {A = ℕ} (nat_le (1 + n) m) 1 0)
    (ap (λ (rs : List InterruptionRow). length (filter (is_sustained_among which) rs)) rows.1
    ∙ kept_twice g (is_sustained_among which) (is_counted b.period b.marks which) is_sustained (λ i. ap (λ (t : Bool). t && is_sustained i) (among_is b which c.section rows.0 (c.since, c.until) i))
    (interruptions b.network b.entries b.period c)))
    ∙ sym (get_or-map-range_with_len (interrupted (counted b.network b.entries b.period b.marks which) b.customers) 1 10 n (1 + n) 0 few (omega arith))

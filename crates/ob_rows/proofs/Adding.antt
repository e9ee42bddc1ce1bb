-- A number for each interruption, summed over the rows with their customers, is its sum over the customers.
use Rattle.std.proofs.Common.{◌≡◌, ℕ, ◌+◌, ◌*◌, ◌<◌, ◌==◌, ◌&&◌, Bool, true, false, cond, nat_eq, List, [], ◌∷◌, Option, Some, None, IsSome, length, get_or, refl, sym, ap, ap₂, subst, ◌∙◌, inl, inr, arith}
use Rattle.std.specs.List.{count_by, flat_map, range_with_len, sum_by}
use Rattle.std.specs.Option.{option_eq, option_map_or}
use Rattle.std.proofs.lemmas.Bool.{cases_Bool, eqb-true, true≢false}
use Rattle.std.proofs.lemmas.List.Sums.{sum_by-cons, sum_by-append}
use Rattle.ob_base.specs.declared.interval.Interval.{Interval}
use Rattle.ob_net.specs.Network.{home_feeder}
use Rattle.ob_cust.specs.Blocks.{has_service}
use Rattle.ob_cust.specs.declared.Customer.{Customer}
use Rattle.ob_cust.proofs.Totals.{count_is, counted_own}
use Rattle.ob_cust.proofs.Order.{is_same, same_test, test_from_apart, once_from_before}
use Rattle.ob_sweep.proofs.Related.{section_is_node}
use Rattle.ob_post.proofs.Sums.{sum_of_same, sum_of_zeros, sum_where_same, swap_sums, sum_by-map}
use Rattle.ob_post.proofs.Totals.{one_in}
use Rattle.ob_post.specs.SectionLaws.{AreOnSections}
use Rattle.ob_index.specs.Interruptions.{interruptions}
use Rattle.ob_state.specs.State.{BookState}
use Rattle.ob_rows.specs.Services.{Service, customers_with, services_of}
use Rattle.ob_rows.specs.Rows.{customer_with, interruption_rows, row_of, rows_of_node, rows_of_service}
use Rattle.ob_rows.specs.declared.row.InterruptionRow.{InterruptionRow}
use Rattle.ob_rows.proofs.Services.{IsAmong, IsBeforeAll, Rise, among, before_among, rise_services}

-- ---- sums over lists
pub sum_of_pieces : {X A : Type 0} (f : A → ℕ) (g : X → List A) (xs : List X) → sum_by f (flat_map g xs) ≡ sum_by (λ x. sum_by f (g x)) xs
sum_of_pieces f g [] = refl
sum_of_pieces f g (x ∷ xs) =
    sum_by-append f (g x) (flat_map g xs) ∙ ap (λ (n : ℕ). sum_by f (g x) + n) (sum_of_pieces f g xs) ∙ sym (sum_by-cons (λ x. sum_by f (g x)) x xs)

times_sum : {X : Type 0} (n : ℕ) (f : X → ℕ) (xs : List X) → sum_by (λ x. n * f x) xs ≡ n * sum_by f xs
times_sum n f [] = omega arith
times_sum n f (x ∷ xs) =
    let rest = times_sum n f xs in
    let sum = sum_by-cons f x xs in
    sum_by-cons (λ y. n * f y) x xs ∙ ap (λ (m : ℕ). n * f x + m) rest ∙ omega arith ∙ ap (λ (m : ℕ). n * m) (sym sum)

one_of_bool : (t : Bool) (k : ℕ) → cond t 1 0 * k ≡ cond t k 0
one_of_bool true k = omega arith
one_of_bool false k = omega arith

-- so many times as the test passes
count_times : {X : Type 0} (p : X → Bool) (k : ℕ) (xs : List X) → count_by p xs * k ≡ sum_by (λ x. cond (p x) k 0) xs
count_times p k [] = omega arith
count_times p k (x ∷ xs) =
    let rest = count_times p k xs in
    let one = one_of_bool (p x) k in
    ap (λ (n : ℕ). n * k) (sum_by-cons (λ y. cond (p y) 1 0) x xs) ∙ spread (cond (p x) 1 0) (count_by p xs) k ∙ ap₂ (λ (m n : ℕ). m + n) one rest ∙ sym (sum_by-cons (λ y. cond (p y) k 0) x xs)
  where
    spread : (m n k : ℕ) → (m + n) * k ≡ m * k + n * k
    spread m n k = omega arith

-- ---- services
-- of services that rise at most one is the same as another one
none_same : (u : Service) (ts : List Service) (k : Service → ℕ) → IsBeforeAll u ts → sum_by (λ t. cond (is_same u t) (k t) 0) ts ≡ 0
none_same u [] k all = refl
none_same u (t ∷ ts) k all =
    let apart : is_same u t ≡ false = test_from_apart u t (once_from_before u t all.0) in
    let none : cond (is_same u t) (k t) 0 ≡ 0 = ap (λ (b : Bool). cond b (k t) 0) apart in
    omega (arith, sum_by-cons (λ t. cond (is_same u t) (k t) 0) t ts, none, none_same u ts k all.1)

one_same : (u : Service) (ts : List Service) (k : Service → ℕ) → Rise ts → IsAmong u ts → sum_by (λ t. cond (is_same u t) (k t) 0) ts ≡ k u
one_same u [] k rise a = elim a [ ]
one_same u (t ∷ ts) k rise (inl same) =
    let here : cond (is_same u t) (k t) 0 ≡ k u = subst (λ (w : Service). cond (is_same u w) (k w) 0 ≡ k u) same (ap (λ (b : Bool). cond b (k u) 0) (same_test u)) in
    let rest = none_same u ts k (subst (λ (w : Service). IsBeforeAll w ts) (sym same) rise.0) in
    omega (arith, sum_by-cons (λ t. cond (is_same u t) (k t) 0) t ts, here, rest)
one_same u (t ∷ ts) k rise (inr more) =
    let before = before_among t u ts rise.0 more in
    let apart : is_same u t ≡ false = test_from_apart u t (λ p q. once_from_before t u before (sym p) (sym q)) in
    let none : cond (is_same u t) (k t) 0 ≡ 0 = ap (λ (b : Bool). cond b (k t) 0) apart in
    omega (arith, sum_by-cons (λ t. cond (is_same u t) (k t) 0) t ts, none, one_same u ts k rise.1 more)

-- the service of a customer of the section is one of its services
pub own_service : (v : ℕ) (roll : List Customer) (j : ℕ) (d : Customer) → j < length roll → ((get_or roll j d).section == v) ≡ true → IsAmong ((get_or roll j d).since, (get_or roll j d).until) (services_of v roll)
own_service v roll j d l here =
    let c = get_or roll j d in
    let one = counted_own v roll j d l (eqb-true c.section v here) in
    among v roll (c.since, c.until) (omega (arith, one, count_is v (c.since, c.until) roll))

module _ (v : ℕ) (roll : List Customer) (k : Service → ℕ) where
  abbrev own : Customer → ℕ
  own c = cond (c.section == v) (k (c.since, c.until)) 0

  at_customer : (c : Customer) → ((c.section == v) ≡ true → IsAmong (c.since, c.until) (services_of v roll)) → sum_by (λ (s : Service). cond (has_service v s.0 s.1 c) (k s) 0) (services_of v roll) ≡ own c
  at_customer c there = elim (cases_Bool (c.section == v)) [
    | inl here ↦
        sum_of_same (λ (s : Service). cond (has_service v s.0 s.1 c) (k s) 0) (λ (s : Service). cond (is_same (c.since, c.until) s) (k s) 0) (services_of v roll)
        (λ s. ap (λ (b : Bool). cond ((b && c.since == s.0) && option_eq nat_eq c.until s.1) (k s) 0) here)
        ∙ one_same (c.since, c.until) (services_of v roll) k (rise_services v roll) (there here)
        ∙ ap (λ (b : Bool). cond b (k (c.since, c.until)) 0) (sym here)
    | inr off ↦
        sum_of_same (λ (s : Service). cond (has_service v s.0 s.1 c) (k s) 0) (λ (s : Service). 0) (services_of v roll)
        (λ s. ap (λ (b : Bool). cond ((b && c.since == s.0) && option_eq nat_eq c.until s.1) (k s) 0) off)
        ∙ sum_of_zeros (services_of v roll)
        ∙ ap (λ (b : Bool). cond b (k (c.since, c.until)) 0) (sym off)
  ]

  -- a number for each service, as often as customers of the section have it, is that of each of these customers
  pub by_services : sum_by (λ s. customers_with roll v s * k s) (services_of v roll) ≡ sum_by own roll
  by_services =
      sum_of_same (λ s. customers_with roll v s * k s) (λ s. sum_by (λ c. cond (has_service v s.0 s.1 c) (k s) 0) roll) (services_of v roll) (λ s. count_times (has_service v s.0 s.1) (k s) roll)
      ∙ swap_sums (λ (s : Service) (c : Customer). cond (has_service v s.0 s.1 c) (k s) 0) (services_of v roll) roll
      ∙ sum_where_same (λ c. sum_by (λ (s : Service). cond (has_service v s.0 s.1 c) (k s) 0) (services_of v roll)) own roll (λ j d l. at_customer (get_or roll j d) (own_service v roll j d l))

-- ---- rows
module _ (b : BookState) (value : InterruptionRow → ℕ) (h : ℕ → Interval → ℕ)
    (same : (v feeder : ℕ) (s : Service) (i : Interval) → home_feeder b.network v ≡ Some feeder → value (row_of b v feeder s i) ≡ customers_with b.customers v s * h v i) where
  -- the number of a customer's interruptions
  abbrev pub of_customer : Customer → ℕ
  of_customer c = sum_by (h c.section) (interruptions b.network b.entries b.period c)

  of_service : (v feeder : ℕ) (s : Service) → home_feeder b.network v ≡ Some feeder → sum_by value (rows_of_service b v feeder s) ≡ customers_with b.customers v s * of_customer (customer_with v s)
  of_service v feeder s home =
      let is = interruptions b.network b.entries b.period (customer_with v s) in
      sum_by-map value (row_of b v feeder s) is
      ∙ sum_of_same (λ i. value (row_of b v feeder s i)) (λ i. customers_with b.customers v s * h v i) is (λ i. same v feeder s i home)
      ∙ times_sum (customers_with b.customers v s) (h v) is

  abbrev at : ℕ → Customer → ℕ
  at v c = cond (c.section == v) (of_customer c) 0

  by_service : (v : ℕ) (c : Customer) → cond (c.section == v) (of_customer (customer_with v (c.since, c.until))) 0 ≡ at v c
  by_service v c = elim (cases_Bool (c.section == v)) [
    | inl here ↦ rw here (ap (λ (w : ℕ). of_customer (customer_with w (c.since, c.until))) (sym (eqb-true c.section v here)))
    | inr off ↦ rw off refl
  ]

  module _ (sections : AreOnSections b.network b.customers) where
    not_there : (v : ℕ) → home_feeder b.network v ≡ None → (c : Customer) → IsSome (home_feeder b.network c.section) → at v c ≡ 0
    not_there v none c some = elim (cases_Bool (c.section == v)) [
      | inl here ↦ absurd (true≢false (sym (subst (λ (o : Option ℕ). IsSome o) (ap (home_feeder b.network) (eqb-true c.section v here) ∙ none) some)))
      | inr off ↦ rw off refl
    ]

    of_node : (v : ℕ) (o : Option ℕ) → home_feeder b.network v ≡ o
        → sum_by value (option_map_or (λ feeder. flat_map (rows_of_service b v feeder) (services_of v b.customers)) o []) ≡ sum_by (at v) b.customers
    of_node v None none =
        sym (sum_where_same (at v) (λ c. 0) b.customers (λ j d l. not_there v none (get_or b.customers j d) (sections j d l)) ∙ sum_of_zeros b.customers)
    of_node v (Some feeder) some =
        sum_of_pieces value (rows_of_service b v feeder) (services_of v b.customers)
        ∙ sum_of_same (λ s. sum_by value (rows_of_service b v feeder s)) (λ s. customers_with b.customers v s * of_customer (customer_with v s)) (services_of v b.customers) (λ s. of_service v feeder s some)
        ∙ by_services v b.customers (λ s. of_customer (customer_with v s))
        ∙ sum_of_same (λ c. cond (c.section == v) (of_customer (customer_with v (c.since, c.until))) 0) (at v) b.customers (by_service v)

    one_node : (c : Customer) → c.section < length b.network.nodes → sum_by (λ v. at v c) (range_with_len 0 (length b.network.nodes)) ≡ of_customer c
    one_node c l =
        let nodes = range_with_len 0 (length b.network.nodes) in
        sym (count_times (λ v. c.section == v) (of_customer c) nodes)
        ∙ ap (λ (n : ℕ). n * of_customer c) (one_in c.section 0 (length b.network.nodes) (omega arith) (omega arith)) ∙ once (of_customer c)
      where
        once : (n : ℕ) → 1 * n ≡ n
        once n = omega arith

    -- the sum over the rows is that over the customers
    pub over_customers : sum_by value (interruption_rows b) ≡ sum_by of_customer b.customers
    over_customers =
        let nodes = range_with_len 0 (length b.network.nodes) in
        sum_of_pieces value (rows_of_node b) nodes
        ∙ sum_of_same (λ v. sum_by value (rows_of_node b v)) (λ v. sum_by (at v) b.customers) nodes (λ v. of_node v (home_feeder b.network v) refl)
        ∙ swap_sums at nodes b.customers
        ∙ sum_where_same (λ c. sum_by (λ v. at v c) nodes) of_customer b.customers (λ j d l. one_node (get_or b.customers j d) (section_is_node b.network (get_or b.customers j d).section (sections j d l)))

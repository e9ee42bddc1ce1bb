-- The blocks of a section are its customers' services, each with its number of customers.
use Rattle.std.proofs.Common.{◌≡◌, ◌⊎◌, ℕ, ◌+◌, ◌*◌, ◌<◌, ◌==◌, ◌&&◌, Bool, true, cond, nat_eq, List, [], ◌∷◌, Option, length, map, get_or, suc, refl, sym, ap, subst, ◌∙◌, inl, inr, arith}
use Rattle.std.specs.Prelude.{⊤}
use Rattle.std.specs.List.{All}
use Rattle.std.specs.Option.{option_eq}
use Rattle.std.specs.Ordering.{is_eq, ordering_reverse}
use Rattle.std.specs.declared.cmp.Ordering.{Ordering}
use Rattle.std.specs.declared.cmp.Ordering.TheVariants.{Less, Equal, Greater}
use Rattle.std.proofs.lemmas.Bool.{cases_Bool, false≢true, and_parts}
use Rattle.std.proofs.lemmas.Cmp.{tied_itself}
use Rattle.std.proofs.lemmas.List.Elements.{All-tail}
use Rattle.std.proofs.lemmas.List.Sums.{sum_by-cons}
use Rattle.ob_cust.specs.Blocks.{has_service, service_cmp, service_of, sum_over_blocks, sum_over_customers}
use Rattle.ob_cust.specs.declared.Block.{Block}
use Rattle.ob_cust.specs.declared.Customer.{Customer}
use Rattle.ob_cust.proofs.Order.{AreOrdered, services_total, same_service, is_same, same_test, same_from_test}
use Rattle.ob_cust.proofs.Totals.{one_of, count_is, count_at}
use Rattle.ob_rows.specs.Services.{Service, put_service, put_service_at, services_of, customers_with}

-- ---- lists of services that rise
abbrev pub IsBefore : Service → Service → Type 0
IsBefore s t = service_cmp s t ≡ Less

-- the service is before all of these
abbrev pub IsBeforeAll : Service → List Service → Type 0
IsBeforeAll s [] = ⊤
IsBeforeAll s (t ∷ ts) = IsBefore s t × IsBeforeAll s ts

-- each is before all that follow
abbrev pub Rise : List Service → Type 0
Rise [] = ⊤
Rise (s ∷ ts) = IsBeforeAll s ts × Rise ts

-- the service is one of these
abbrev pub IsAmong : Service → List Service → Type 0
IsAmong s [] = ⊥
IsAmong s (t ∷ ts) = (s ≡ t) ⊎ IsAmong s ts

not_before_itself : (s : Service) → IsBefore s s → ⊥
not_before_itself s l = false≢true (ap is_eq (sym l ∙ tied_itself services_total s))

chained : (s t u : Service) → IsBefore s t → IsBefore t u → IsBefore s u
chained s t u l m = services_total.trans s t u l m

turned : (s t : Service) → service_cmp s t ≡ Greater → IsBefore t s
turned s t g = services_total.antisymm t s ∙ ap ordering_reverse g

before_more : (s t : Service) (ts : List Service) → IsBefore s t → IsBeforeAll t ts → IsBeforeAll s ts
before_more s t [] l all = tt
before_more s t (u ∷ ts) l all = (chained s t u l all.0, before_more s t ts l all.1)

pub before_among : (s t : Service) (ts : List Service) → IsBeforeAll s ts → IsAmong t ts → IsBefore s t
before_among s t [] all a = elim a [ ]
before_among s t (u ∷ ts) all (inl same) = subst (IsBefore s) (sym same) all.0
before_among s t (u ∷ ts) all (inr more) = before_among s t ts all.1 more

-- lists that rise and have the same services are the same
pub same_rising : (ss ts : List Service) → Rise ss → Rise ts → ((u : Service) → IsAmong u ss → IsAmong u ts) → ((u : Service) → IsAmong u ts → IsAmong u ss) → ss ≡ ts
same_rising [] [] rise also f g = refl
same_rising [] (t ∷ ts) rise also f g = absurd (g t (inl refl))
same_rising (s ∷ ss) [] rise also f g = absurd (f s (inl refl))
same_rising (s ∷ ss) (t ∷ ts) rise also f g =
    let head : s ≡ t = elim (f s (inl refl)) [
      | inl same ↦ same
      | inr late ↦ elim (g t (inl refl)) [
        | inl same ↦ sym same
        | inr later ↦ absurd (not_before_itself s (chained s t s (before_among s t ss rise.0 later) (before_among t s ts also.0 late)))
      ]
    ] in
    let tail : ss ≡ ts = same_rising ss ts rise.1 also.1
    (λ u m. elim (f u (inr m)) [
      | inl first ↦ absurd (not_before_itself u (subst (λ (w : Service). IsBefore w u) (head ∙ sym first) (before_among s u ss rise.0 m)))
      | inr rest ↦ rest
    ])
    (λ u m. elim (g u (inr m)) [
      | inl first ↦ absurd (not_before_itself u (subst (λ (w : Service). IsBefore w u) (sym head ∙ sym first) (before_among t u ts also.0 m)))
      | inr rest ↦ rest
    ]) in
    rw (head, tail) refl

-- ---- one service more
put_has_at : (o : Ordering) (s t u : Service) (rest further : List Service) → (IsAmong u further → (u ≡ s) ⊎ IsAmong u rest) → IsAmong u (put_service_at o s t rest further) → (u ≡ s) ⊎ IsAmong u (t ∷ rest)
put_has_at Less s t u rest further more a = a
put_has_at Equal s t u rest further more a = inr a
put_has_at Greater s t u rest further more (inl same) = inr (inl same)
put_has_at Greater s t u rest further more (inr a) = elim (more a) [ inl own ↦ inl own | inr old ↦ inr (inr old) ]

put_has : (s u : Service) (ts : List Service) → IsAmong u (put_service s ts) → (u ≡ s) ⊎ IsAmong u ts
put_has s u [] a = a
put_has s u (t ∷ rest) a = put_has_at (service_cmp s t) s t u rest (put_service s rest) (put_has s u rest) a

put_keeps_at : (o : Ordering) (s t u : Service) (rest further : List Service) → (IsAmong u rest → IsAmong u further) → IsAmong u (t ∷ rest) → IsAmong u (put_service_at o s t rest further)
put_keeps_at Less s t u rest further more a = inr a
put_keeps_at Equal s t u rest further more a = a
put_keeps_at Greater s t u rest further more (inl same) = inl same
put_keeps_at Greater s t u rest further more (inr a) = inr (more a)

put_keeps : (s u : Service) (ts : List Service) → IsAmong u ts → IsAmong u (put_service s ts)
put_keeps s u [] a = elim a [ ]
put_keeps s u (t ∷ rest) a = put_keeps_at (service_cmp s t) s t u rest (put_service s rest) (put_keeps s u rest) a

put_own_at : (o : Ordering) (s t : Service) (rest further : List Service) → service_cmp s t ≡ o → IsAmong s further → IsAmong s (put_service_at o s t rest further)
put_own_at Less s t rest further is more = inl refl
put_own_at Equal s t rest further is more = inl (same_service s t is)
put_own_at Greater s t rest further is more = inr more

put_own : (s : Service) (ts : List Service) → IsAmong s (put_service s ts)
put_own s [] = inl refl
put_own s (t ∷ rest) = put_own_at (service_cmp s t) s t rest (put_service s rest) refl (put_own s rest)

before_put_at : (o : Ordering) (a s t : Service) (rest further : List Service) → IsBefore a s → IsBeforeAll a (t ∷ rest) → IsBeforeAll a further → IsBeforeAll a (put_service_at o s t rest further)
before_put_at Less a s t rest further l all more = (l, all)
before_put_at Equal a s t rest further l all more = all
before_put_at Greater a s t rest further l all more = (all.0, more)

before_put : (a s : Service) (ts : List Service) → IsBefore a s → IsBeforeAll a ts → IsBeforeAll a (put_service s ts)
before_put a s [] l all = (l, tt)
before_put a s (t ∷ rest) l all = before_put_at (service_cmp s t) a s t rest (put_service s rest) l all (before_put a s rest l all.1)

rise_put_at : (o : Ordering) (s t : Service) (rest : List Service) → service_cmp s t ≡ o → Rise (t ∷ rest) → Rise (put_service s rest) → Rise (put_service_at o s t rest (put_service s rest))
rise_put_at Less s t rest is rise more = ((is, before_more s t rest is rise.0), rise)
rise_put_at Equal s t rest is rise more = rise
rise_put_at Greater s t rest is rise more = (before_put t s rest (turned s t is) rise.0, more)

rise_put : (s : Service) (ts : List Service) → Rise ts → Rise (put_service s ts)
rise_put s [] rise = (tt, tt)
rise_put s (t ∷ rest) rise = rise_put_at (service_cmp s t) s t rest refl rise (rise_put s rest rise.1)

-- ---- the services of customers
pub rise_services : (v : ℕ) (roll : List Customer) → Rise (services_of v roll)
rise_services v [] = tt
rise_services v (c ∷ roll) = elim (cases_Bool (c.section == v)) [
  | inl here ↦ rw here (rise_put (c.since, c.until) (services_of v roll) (rise_services v roll))
  | inr there ↦ rw there (rise_services v roll)
]

with_one : (v : ℕ) (s : Service) (c : Customer) (roll : List Customer) → customers_with (c ∷ roll) v s ≡ cond (has_service v s.0 s.1 c) 1 0 + customers_with roll v s
with_one v s c roll = sum_by-cons (λ (d : Customer). cond (has_service v s.0 s.1 d) 1 0) c roll

has_own : (v : ℕ) (c : Customer) → (c.section == v) ≡ true → has_service v c.since c.until c ≡ true
has_own v c here = rw here (same_test (c.since, c.until))

own_from : (v : ℕ) (s : Service) (c : Customer) → has_service v s.0 s.1 c ≡ true → ((c.section == v) ≡ true) × (s ≡ (c.since, c.until))
own_from v (a, p) c h =
    let both = and_parts (c.section == v && c.since == a) (option_eq nat_eq c.until p) h in
    let first = and_parts (c.section == v) (c.since == a) both.0 in
    let same = same_from_test (c.since, c.until) (a, p) (rw first.1 both.1) in
    (first.0, rw (same.0, same.1) refl)

own_counted : (v : ℕ) (c : Customer) (roll : List Customer) → (c.section == v) ≡ true → 0 < customers_with (c ∷ roll) v (c.since, c.until)
own_counted v c roll here =
    let one : cond {A = ℕ} (has_service v c.since c.until c) 1 0 ≡ 1 = ap (λ (t : Bool). cond t 1 0) (has_own v c here) in
    omega (arith, one, with_one v (c.since, c.until) c roll)

-- a service is one of them exactly where some customer has it
pub counted : (v : ℕ) (roll : List Customer) (s : Service) → IsAmong s (services_of v roll) → 0 < customers_with roll v s
counted v [] s a = elim a [ ]
counted v (c ∷ roll) s a = elim (cases_Bool (c.section == v)) [
  | inl here ↦ elim (put_has (c.since, c.until) s (services_of v roll) (rw here at a)) [
    | inl own ↦ subst (λ (t : Service). 0 < customers_with (c ∷ roll) v t) (sym own) (own_counted v c roll here)
    | inr old ↦ omega (arith, with_one v s c roll, counted v roll s old)
  ]
  | inr there ↦ omega (arith, with_one v s c roll, counted v roll s (rw there at a))
]

pub among : (v : ℕ) (roll : List Customer) (s : Service) → 0 < customers_with roll v s → IsAmong s (services_of v roll)
among v [] s some = absurd (omega arith)
among v (c ∷ roll) s some = elim (cases_Bool (has_service v s.0 s.1 c)) [
  | inl has ↦
      let own = own_from v s c has in
      rw own.0 (subst (λ (t : Service). IsAmong t (put_service (c.since, c.until) (services_of v roll))) (sym own.1) (put_own (c.since, c.until) (services_of v roll)))
  | inr not ↦
      let none : cond {A = ℕ} (has_service v s.0 s.1 c) 1 0 ≡ 0 = ap (λ (t : Bool). cond t 1 0) not in
      let rest : 0 < customers_with roll v s = omega (arith, some, none, with_one v s c roll) in
      elim (cases_Bool (c.section == v)) [
        | inl here ↦ rw here (put_keeps (c.since, c.until) s (services_of v roll) (among v roll s rest))
        | inr there ↦ rw there (among v roll s rest)
      ]
]

-- ---- the services of blocks
before_blocks : (b : Block) (bs : List Block) → ((k : ℕ) (d : Block) → k < length bs → IsBefore (service_of b) (service_of (get_or bs k d))) → IsBeforeAll (service_of b) (map service_of bs)
before_blocks b [] h = tt
before_blocks b (c ∷ bs) h = (h 0 c (omega arith), before_blocks b bs (λ k d l. h (suc k) d (omega arith)))

rise_blocks : (bs : List Block) → AreOrdered bs → Rise (map service_of bs)
rise_blocks [] h = tt
rise_blocks (b ∷ bs) h =
    (before_blocks b bs (λ k d l. h 0 (suc k) d (omega arith) (omega arith)), rise_blocks bs (λ i j d l m. h (suc i) (suc j) d (omega arith) (omega arith)))

block_counted : (bs : List Block) (s : Service) → All (λ b. 0 < b.count) bs → IsAmong s (map service_of bs) → 0 < sum_over_blocks (one_of s) bs
block_counted [] s positive a = elim a [ ]
block_counted (b ∷ bs) s positive (inl same) =
    let sum = sum_by-cons (λ (a : Block). a.count * one_of s a.since a.until) b bs in
    let test : is_same (service_of b) s ≡ true = subst (λ (t : Service). is_same (service_of b) t ≡ true) (sym same) (same_test (service_of b)) in
    let one : b.count * one_of s b.since b.until ≡ b.count * 1 = ap (λ (t : Bool). b.count * cond t 1 0) test in
    let some = positive 0 b (omega arith) in
    omega (arith, some, one, sum)
block_counted (b ∷ bs) s positive (inr more) =
    let sum = sum_by-cons (λ (a : Block). a.count * one_of s a.since a.until) b bs in
    let rest = block_counted bs s (All-tail (λ (a : Block). 0 < a.count) b bs positive) more in
    omega (arith, sum, rest)

block_among : (bs : List Block) (s : Service) → 0 < sum_over_blocks (one_of s) bs → IsAmong s (map service_of bs)
block_among [] s some = absurd (omega arith)
block_among (b ∷ bs) (a, p) some =
    let sum = sum_by-cons (λ (c : Block). c.count * one_of (a, p) c.since c.until) b bs in
    elim (cases_Bool (is_same (service_of b) (a, p))) [
      | inl same ↦ let own = same_from_test (service_of b) (a, p) same in inl (rw (own.0, own.1) refl)
      | inr apart ↦
          let none : b.count * one_of (a, p) b.since b.until ≡ b.count * 0 = ap (λ (t : Bool). b.count * cond t 1 0) apart in
          inr (block_among bs (a, p) (omega (arith, some, none, sum)))
    ]

-- ---- blocks of which all sums are those of a section's customers
module _ (roll : List Customer) (v : ℕ) (bs : List Block) (ordered : AreOrdered bs) (positive : All (λ b. 0 < b.count) bs) (sums : (f : ℕ → Option ℕ → ℕ) → sum_over_blocks f bs ≡ sum_over_customers f v roll) where
  both_counts : (s : Service) → sum_over_blocks (one_of s) bs ≡ customers_with roll v s
  both_counts s = sums (one_of s) ∙ count_is v s roll

  -- they have the services of the customers, in order
  pub services_are : services_of v roll ≡ map service_of bs
  services_are =
      same_rising (services_of v roll) (map service_of bs) (rise_services v roll) (rise_blocks bs ordered)
      (λ s a. block_among bs s (omega (arith, both_counts s, counted v roll s a)))
      (λ s a. among v roll s (omega (arith, both_counts s, block_counted bs s positive a)))

  -- each counts the customers with its service
  pub count_of : (k : ℕ) (d : Block) → k < length bs → (get_or bs k d).count ≡ customers_with roll v (service_of (get_or bs k d))
  count_of k d l = sym (count_at bs k d ordered l) ∙ both_counts (service_of (get_or bs k d))

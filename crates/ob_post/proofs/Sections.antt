-- Customer-seconds by section, and those of a section by its runs.
use Rattle.std.proofs.Common.{◌≡◌, ◌∙◌, sym, ap, subst, refl, ℕ, ◌+◌, ◌-◌, ◌<◌, ◌≤◌, ◌==◌, ◌&&◌, Bool, true, false, cond, List, [], ◌∷◌, length, get_or, sum_by, count_by, Option, Some, None, eq-eqb, inl, inr, arith}
use Rattle.std.specs.List.{All, filter, range_with_len}
use Rattle.std.specs.Option.{IsSome, option_map_or, option_and_then}
use Rattle.std.proofs.Math.Bool.{and_comm}
use Rattle.std.proofs.lemmas.Bool.{cases_Bool, eqb-true, ne_eqb, and_right, and_parts, true≢false}
use Rattle.std.proofs.lemmas.List.Elements.{All-nil, All-cons, All-tail, All-map}
use Rattle.std.proofs.lemmas.List.FromFn.{length-range_with_len, get_or-range_with_len}
use Rattle.std.proofs.lemmas.Option.{slice_get_cases}
use Rattle.ob_net.specs.Network.{Network, home_feeder}
use Rattle.ob_base.specs.Seconds.{seconds, starts_at, interval_from, intervals}
use Rattle.ob_net.specs.declared.net.Node.{Node}
use Rattle.ob_sheet.specs.declared.Entry.{Entry}
use Rattle.ob_sheet.specs.Order.{cause_of}
use Rattle.ob_sheet.specs.Supply.{is_deenergized}
use Rattle.ob_cust.specs.declared.Customer.{Customer}
use Rattle.ob_cust.specs.Service.{in_service}
use Rattle.ob_cust.specs.WithoutSupply.{customer_seconds, is_without_supply}
use Rattle.ob_sweep.specs.Cutters.{cutter_at}
use Rattle.ob_sweep.specs.Runs.{History, history, as_run, runs_between}
use Rattle.ob_sweep.specs.declared.Run.{Run}
use Rattle.ob_post.specs.CustomerSeconds.{Days, has_key}
use Rattle.ob_post.specs.RunAmounts.{customer_seconds_in, section_seconds_by, IsRunOf}
use Rattle.ob_post.specs.SectionAmounts.{run_cause, amount_of_runs, amount_at}
use Rattle.ob_post.specs.SectionLaws.{AreOnSections, RunsLieWithin, SectionByRuns, BySection, ByRuns, SameByCause, OneCustomer}
use Rattle.ob_post.specs.declared.Dim.{Dim}
use Rattle.ob_post.proofs.Posted.{posted_is}
use Rattle.ob_post.proofs.RunParts.{sum_of_parts, holds_within, lies_within, start_is}
use Rattle.ob_post.proofs.Sums.{sum_of_zeros, sum_of_same, sum_where_same, sum_by-map}
use Rattle.ob_post.proofs.Totals.{add_up, one_in, same_seconds}

all_filter : {X : Type 0} (p : X → Bool) (Q : X → Type 0) (xs : List X) → All (λ x. p x ≡ true → Q x) xs → All Q (filter p xs)
all_filter p Q [] h = All-nil Q
all_filter p Q (x ∷ xs) h = elim (cases_Bool (p x)) [
  | inl t ↦ rw t (All-cons Q x (filter p xs) (h 0 x (omega arith) t) (all_filter p Q xs (All-tail (λ y. p y ≡ true → Q y) x xs h)))
  | inr f ↦ rw f (all_filter p Q xs (All-tail (λ y. p y ≡ true → Q y) x xs h))
]

-- what holds of the run that starts at each second that one may start at holds of all runs
every_run : (P : Run → Type 0) (v : ℕ) (h : History) (a b : ℕ) → ((i : ℕ) → a ≤ i → i < b → starts_at h.deenergized a i ≡ true → P (as_run v h (interval_from h.deenergized b i))) → All P (runs_between v h a b)
every_run P v h a b each =
    All-map P (as_run v h) (intervals h.deenergized a b)
    (All-map (λ i. P (as_run v h i)) (interval_from h.deenergized b) (filter (starts_at h.deenergized a) (seconds a b))
    (all_filter (starts_at h.deenergized a) (λ s. P (as_run v h (interval_from h.deenergized b s))) (seconds a b)
    (λ k d l starts.
    let long = length-range_with_len a (b - a) in
    let at = get_or-range_with_len a (b - a) k d (omega arith) in
    each (get_or (seconds a b) k d) (omega arith) (omega arith) starts)))

pub runs_lie_within : RunsLieWithin
runs_lie_within v h a b =
    every_run (λ r. (a ≤ r.since) × (r.since < r.until) × (r.until ≤ b)) v h a b
    (λ i l u starts. lies_within h.deenergized a b i l u (and_parts (h.deenergized i) _ starts).0)

-- the run that starts at a second is one of the network under the sheet
is_run_of : (net : Network) (entries : List Entry) (p : Days) (v feeder i : ℕ) → home_feeder net v ≡ Some feeder → p.first ≤ i → starts_at (is_deenergized net entries v) p.first i ≡ true
    → IsRunOf net entries p (as_run v (history net entries v) (interval_from (is_deenergized net entries v) p.end i)) (run_cause entries (as_run v (history net entries v) (interval_from (is_deenergized net entries v) p.end i))) feeder
is_run_of net entries p v feeder i home l starts = record {
  home = home;
  deenergized = λ s m u. holds_within (is_deenergized net entries v) p.end i s m u;
  posted = λ s m u. ap (λ (o : Option ℕ). option_map_or (cause_of entries) (option_and_then (cutter_at net entries v) o) 0) (start_is (is_deenergized net entries v) p.first p.end i s l starts m u);
}

-- at a second with supply, no customer of the section counts
lit_one : (net : Network) (entries : List Entry) (p : Days) (v : ℕ) (dim : Dim) (key s : ℕ) (c : Customer) → is_deenergized net entries v s ≡ false
    → (c.section == v && (is_without_supply (is_deenergized net entries) c s && has_key net entries p dim key c s)) ≡ false
lit_one net entries p v dim key s c off = elim (cases_Bool (c.section == v)) [
  | inl t ↦
      let lit : is_deenergized net entries c.section s ≡ false = ap (λ (w : ℕ). is_deenergized net entries w s) (eqb-true c.section v t) ∙ off in
      let out : is_without_supply (is_deenergized net entries) c s ≡ false = and_right (in_service c s) (is_deenergized net entries c.section s) lit in
      rw t (rw out refl)
  | inr f ↦ rw f refl
]

nobody : (net : Network) (entries : List Entry) (roll : List Customer) (p : Days) (v : ℕ) (dim : Dim) (key s : ℕ) → is_deenergized net entries v s ≡ false
    → count_by (λ c. c.section == v && (is_without_supply (is_deenergized net entries) c s && has_key net entries p dim key c s)) roll ≡ 0
nobody net entries roll p v dim key s off =
    sum_of_same (λ c. cond (c.section == v && (is_without_supply (is_deenergized net entries) c s && has_key net entries p dim key c s)) 1 0) (λ c. 0) roll
    (λ c. ap (λ (b : Bool). cond b 1 0) (lit_one net entries p v dim key s c off))
    ∙ sum_of_zeros roll

pub section_by_runs : SectionByRuns
section_by_runs net entries roll p v feeder dim key home =
    let dead : ℕ → Bool = is_deenergized net entries v in
    let h : History = history net entries v in
    let here : ℕ → ℕ = λ s. count_by (λ c. c.section == v && (is_without_supply (is_deenergized net entries) c s && has_key net entries p dim key c s)) roll in
    sum_of_parts here dead p.first p.end (λ t off. nobody net entries roll p v dim key t off)
    ∙ sym (sum_by-map (λ (r : Run). sum_by here (seconds r.since r.until)) (as_run v h) (intervals dead p.first p.end))
    ∙ sym
    (sum_where_same (λ (r : Run). customer_seconds_in roll r (run_cause entries r) feeder p.days dim key) (λ (r : Run). sum_by here (seconds r.since r.until)) (runs_between v h p.first p.end)
    (every_run (λ (r : Run). customer_seconds_in roll r (run_cause entries r) feeder p.days dim key ≡ sum_by here (seconds r.since r.until)) v h p.first p.end
    (λ i l u starts.
    let r : Run = as_run v h (interval_from dead p.end i) in
    posted_is net entries roll p r (run_cause entries r) feeder p.days dim key refl (is_run_of net entries p v feeder i home l starts))))

pub same_by_cause : SameByCause
same_by_cause old new roll days feeder runs dim key h =
    sum_where_same (λ (r : Run). customer_seconds_in roll r (run_cause new r) feeder days dim key) (λ (r : Run). customer_seconds_in roll r (run_cause old r) feeder days dim key) runs
    (λ i d l. ap (λ (c : ℕ). customer_seconds_in roll (get_or runs i d) c feeder days dim key) (h i d l))

pub by_section : BySection
by_section net entries roll p n dim key h =
    let counts : Customer → ℕ → Bool = λ c s. is_without_supply (is_deenergized net entries) c s && has_key net entries p dim key c s in
    let when : List ℕ = seconds p.first p.end in
    sym
    (sum_of_same (λ v. section_seconds_by net entries roll p v when dim key) (λ v. customer_seconds (λ c s. counts c s && c.section == v) when roll) (range_with_len 0 n)
    (λ v. same_seconds (λ c s. c.section == v && counts c s) (λ c s. counts c s && c.section == v) when roll (λ c s. and_comm (c.section == v) (counts c s)))
    ∙ add_up counts (λ v c s. c.section == v) (range_with_len 0 n) when roll (λ i d l j e m. one_in (get_or roll j e).section 0 n (omega arith) (omega (arith, h j e m))))

-- a section without customers has no customer-seconds
pub no_customers : (net : Network) (entries : List Entry) (roll : List Customer) (p : Days) (v : ℕ) (when : List ℕ) (dim : Dim) (key : ℕ) → All (λ c. (c.section == v) ≡ false) roll
    → section_seconds_by net entries roll p v when dim key ≡ 0
no_customers net entries roll p v when dim key h =
    sum_of_same (λ s. count_by (λ c. c.section == v && (is_without_supply (is_deenergized net entries) c s && has_key net entries p dim key c s)) roll) (λ s. 0) when
    (λ s.
    sum_where_same (λ c. cond (c.section == v && (is_without_supply (is_deenergized net entries) c s && has_key net entries p dim key c s)) 1 0) (λ c. 0) roll
    (λ i d l. ap (λ (b : Bool). cond (b && (is_without_supply (is_deenergized net entries) (get_or roll i d) s && has_key net entries p dim key (get_or roll i d) s)) 1 0) (h i d l))
    ∙ sum_of_zeros roll)
    ∙ sum_of_zeros when

some_feeder : (o : Option ℕ) → o ≡ None → IsSome o → ⊥
some_feeder o e h = true≢false (sym (subst (λ (q : Option ℕ). IsSome q) e h))

-- a section is a node
section_below : (net : Network) (v : ℕ) → IsSome (home_feeder net v) → v < length net.nodes
section_below net v h = elim (slice_get_cases net.nodes v).1 [
  | inl there ↦ there.1
  | inr past ↦ absurd (some_feeder (home_feeder net v) (ap (λ (o : Option Node). option_and_then (λ n. n.feeder) o) past.1) h)
]

-- a node's customer-seconds are those of its runs
at_node : (net : Network) (entries : List Entry) (roll : List Customer) (p : Days) (v : ℕ) (dim : Dim) (key : ℕ) (o : Option ℕ) → AreOnSections net roll → home_feeder net v ≡ o
    → section_seconds_by net entries roll p v (seconds p.first p.end) dim key
    ≡ option_map_or (λ feeder. amount_of_runs entries roll p.days feeder (runs_between v (history net entries v) p.first p.end) dim key) o 0
at_node net entries roll p v dim key None h e =
    no_customers net entries roll p v (seconds p.first p.end) dim key
    (λ i d l. ne_eqb (get_or roll i d).section v (λ same. some_feeder (home_feeder net (get_or roll i d).section) (ap (home_feeder net) same ∙ e) (h i d l)))
at_node net entries roll p v dim key (Some feeder) h e = section_by_runs net entries roll p v feeder dim key e

pub by_runs : ByRuns
by_runs net entries roll p dim key h =
    by_section net entries roll p (length net.nodes) dim key (λ i d l. section_below net (get_or roll i d).section (h i d l))
    ∙ sum_of_same (λ v. section_seconds_by net entries roll p v (seconds p.first p.end) dim key) (λ v. amount_at net entries roll p v dim key) (range_with_len 0 (length net.nodes))
    (λ v. at_node net entries roll p v dim key (home_feeder net v) h refl)

-- the customer-seconds of one customer are those of its section's runs
pub one_customer : OneCustomer
one_customer net entries c p feeder dim key home =
    let counts : Customer → ℕ → Bool = λ d s. is_without_supply (is_deenergized net entries) d s && has_key net entries p dim key d s in
    sum_of_same (λ s. count_by (λ d. counts d s) (c ∷ [])) (λ s. count_by (λ d. d.section == c.section && counts d s) (c ∷ [])) (seconds p.first p.end)
    (λ s. ap (λ (b : Bool). 0 + cond (b && counts c s) 1 0) (sym (eq-eqb c.section c.section refl)))
    ∙ section_by_runs net entries (c ∷ []) p c.section feeder dim key home

-- How sums over the roll change with it.
use Rattle.std.proofs.Common.{◌≡◌, ◌∙◌, sym, ap, ap₂, refl, ℕ, suc, ◌+◌, ◌<◌, ◌==◌, ◌&&◌, Bool, false, cond, nat_lt, List, [], ◌∷◌, get_or, sum_by, count_by, Option, Some, None, unwrap_or, is_some, inl, inr, arith}
use Rattle.std.specs.List.{All, AllPairs, find}
use Rattle.std.proofs.lemmas.Bool.{cases_Bool, eqb-true, ne_eqb, true≢false}
use Rattle.std.proofs.lemmas.List.Elements.{All-tail}
use Rattle.std.proofs.lemmas.List.Sums.{sum_by-cons}
use Rattle.ob_base.specs.Seconds.{seconds}
use Rattle.ob_base.specs.declared.interval.Interval.{Interval}
use Rattle.ob_sheet.specs.declared.Entry.{Entry}
use Rattle.ob_sheet.specs.Supply.{is_deenergized}
use Rattle.ob_cust.specs.declared.Customer.{Customer}
use Rattle.ob_cust.specs.Roll.{with_customer}
use Rattle.ob_cust.specs.Service.{in_service}
use Rattle.ob_cust.specs.WithoutSupply.{customer_seconds, is_without_supply}
use Rattle.ob_sweep.specs.declared.Run.{Run}
use Rattle.ob_post.specs.CustomerSeconds.{has_key}
use Rattle.ob_post.specs.RunAmounts.{counts_under, customer_seconds_in}
use Rattle.ob_post.specs.SectionAmounts.{run_cause, amount_of_runs, with_changed}
use Rattle.ob_post.specs.SectionLaws.{Nobody, Connected, ConnectedToRuns, Changed, ChangedInRuns}
use Rattle.ob_post.specs.declared.Dim.{Dim}
use Rattle.ob_post.proofs.Sums.{sum_of_zeros, sum_of_added, sum_of_same}

-- two lists of customers count together as two others do, whatever is counted
abbrev CountAlike : List Customer → List Customer → List Customer → List Customer → Type 0
CountAlike ws xs ys zs = (test : Customer → Bool) → count_by test ws + count_by test xs ≡ count_by test ys + count_by test zs

-- sums of two values together, where they are alike
both_sums : {X : Type 0} (f g h k : X → ℕ) (xs : List X) → ((x : X) → f x + g x ≡ h x + k x) → sum_by f xs + sum_by g xs ≡ sum_by h xs + sum_by k xs
both_sums f g h k xs e = sym (sum_of_added f g xs) ∙ sum_of_same (λ x. f x + g x) (λ x. h x + k x) xs e ∙ sum_of_added h k xs

seconds_alike : (ws xs ys zs : List Customer) (test : Customer → ℕ → Bool) (when : List ℕ) → CountAlike ws xs ys zs
    → customer_seconds test when ws + customer_seconds test when xs ≡ customer_seconds test when ys + customer_seconds test when zs
seconds_alike ws xs ys zs test when alike =
    both_sums (λ s. count_by (λ c. test c s) ws) (λ s. count_by (λ c. test c s) xs) (λ s. count_by (λ c. test c s) ys) (λ s. count_by (λ c. test c s) zs) when (λ s. alike (λ c. test c s))

runs_alike : (ws xs ys zs : List Customer) (entries : List Entry) (days : List Interval) (feeder : ℕ) (runs : List Run) (dim : Dim) (key : ℕ) → CountAlike ws xs ys zs
    → amount_of_runs entries ws days feeder runs dim key + amount_of_runs entries xs days feeder runs dim key
    ≡ amount_of_runs entries ys days feeder runs dim key + amount_of_runs entries zs days feeder runs dim key
runs_alike ws xs ys zs entries days feeder runs dim key alike =
    let in_run : List Customer → Run → ℕ = λ roll r. customer_seconds_in roll r (run_cause entries r) feeder days dim key in
    both_sums (in_run ws) (in_run xs) (in_run ys) (in_run zs) runs
    (λ r. seconds_alike ws xs ys zs (λ c s. in_service c s && (c.section == r.section && counts_under (run_cause entries r) feeder days dim key s)) (seconds r.since r.until) alike)

-- ---- a customer more
with_sum : (f : Customer → ℕ) (c : Customer) (roll : List Customer) → sum_by f (with_customer c roll) ≡ f c + sum_by f roll
with_sum f c [] = sum_by-cons f c []
with_sum f c (d ∷ ds) = elim (cases_Bool (nat_lt c.no d.no)) [
  | inl t ↦ rw t (sum_by-cons f c (d ∷ ds))
  | inr n ↦ rw n (omega (arith, sum_by-cons f d (with_customer c ds), with_sum f c ds, sum_by-cons f d ds))
]

with_alike : (c : Customer) (roll : List Customer) → CountAlike (with_customer c roll) [] roll (c ∷ [])
with_alike c roll = λ test. omega (arith, with_sum (λ d. cond (test d) 1 0) c roll)

none_on : (test : Customer → ℕ → Bool) (when : List ℕ) → customer_seconds test when [] ≡ 0
none_on test when = sum_of_zeros when

pub nobody : Nobody
nobody net entries p dim key = none_on (λ d s. is_without_supply (is_deenergized net entries) d s && has_key net entries p dim key d s) (seconds p.first p.end)

pub connected : Connected
connected net entries c roll p dim key =
    let test : Customer → ℕ → Bool = λ d s. is_without_supply (is_deenergized net entries) d s && has_key net entries p dim key d s in
    let when : List ℕ = seconds p.first p.end in
    omega (arith, seconds_alike (with_customer c roll) [] roll (c ∷ []) test when (with_alike c roll), none_on test when)

pub connected_to_runs : ConnectedToRuns
connected_to_runs entries c roll days feeder runs dim key =
    let empty : amount_of_runs entries [] days feeder runs dim key ≡ 0 =
    sum_of_same (λ (r : Run). customer_seconds_in [] r (run_cause entries r) feeder days dim key) (λ r. 0) runs
    (λ r. none_on (λ d s. in_service d s && (d.section == r.section && counts_under (run_cause entries r) feeder days dim key s)) (seconds r.since r.until))
    ∙ sum_of_zeros runs in
    omega (arith, runs_alike (with_customer c roll) [] roll (c ∷ []) entries days feeder runs dim key (with_alike c roll), empty)

-- ---- a customer that changes
others_stay : (number : ℕ) (change : Customer → Customer) (roll : List Customer) → All (λ c. (c.no == number) ≡ false) roll → with_changed number change roll ≡ roll
others_stay number change [] h = refl
others_stay number change (c ∷ cs) h =
    ap₂ (λ (b : Bool) (ds : List Customer). cond b (change c) c ∷ ds) (h 0 c (omega arith)) (others_stay number change cs (All-tail (λ d. (d.no == number) ≡ false) c cs h))

changed_sum : (f : Customer → ℕ) (number : ℕ) (change : Customer → Customer) (c : Customer) (roll : List Customer) → AllPairs (λ a b. a.no < b.no) roll → find (λ d. d.no == number) roll ≡ Some c
    → sum_by f (with_changed number change roll) + f c ≡ sum_by f roll + f (change c)
changed_sum f number change c [] rising h = absurd (none_some h)
  where
    none_some : None ≡ Some c → ⊥
    none_some e = true≢false (sym (ap is_some e))
changed_sum f number change c (d ∷ ds) rising h = elim (cases_Bool (d.no == number)) [
  | inl t ↦
      let is : d ≡ c = ap (λ (o : Option Customer). unwrap_or o d) (ap (λ (b : Bool). cond b (Some d) (find (λ e. e.no == number) ds)) (sym t) ∙ h) in
      let same : d.no ≡ number = eqb-true d.no number t in
      let rest : with_changed number change ds ≡ ds =
      others_stay number change ds (λ i e l. ne_eqb (get_or ds i e).no number (λ at. omega (arith, at, same, rising 0 (suc i) e (omega arith) (omega arith)))) in
      let head : with_changed number change (d ∷ ds) ≡ change d ∷ ds = ap₂ (λ (b : Bool) (es : List Customer). cond b (change d) d ∷ es) t rest in
      omega (arith, ap (sum_by f) head, sum_by-cons f (change d) ds, sum_by-cons f d ds, ap f is, ap (λ (e : Customer). f (change e)) is)
  | inr n ↦
      let found : find (λ e. e.no == number) ds ≡ Some c = ap (λ (b : Bool). cond b (Some d) (find (λ e. e.no == number) ds)) (sym n) ∙ h in
      let head : with_changed number change (d ∷ ds) ≡ d ∷ with_changed number change ds = ap (λ (b : Bool). cond b (change d) d ∷ with_changed number change ds) n in
      let rest = changed_sum f number change c ds (λ i j e l k. rising (suc i) (suc j) e (omega arith) (omega arith)) found in
      omega (arith, ap (sum_by f) head, sum_by-cons f d (with_changed number change ds), sum_by-cons f d ds, rest)
]

changed_alike : (number : ℕ) (change : Customer → Customer) (c : Customer) (roll : List Customer) → AllPairs (λ a b. a.no < b.no) roll → find (λ d. d.no == number) roll ≡ Some c
    → CountAlike (with_changed number change roll) (c ∷ []) roll (change c ∷ [])
changed_alike number change c roll rising h = λ test. omega (arith, changed_sum (λ d. cond (test d) 1 0) number change c roll rising h)

pub changed : Changed
changed net entries number change c roll p dim key rising h =
    seconds_alike (with_changed number change roll) (c ∷ []) roll (change c ∷ []) (λ d s. is_without_supply (is_deenergized net entries) d s && has_key net entries p dim key d s) (seconds p.first p.end)
    (changed_alike number change c roll rising h)

pub changed_in_runs : ChangedInRuns
changed_in_runs entries number change c roll days feeder runs dim key rising h =
    runs_alike (with_changed number change roll) (c ∷ []) roll (change c ∷ []) entries days feeder runs dim key (changed_alike number change c roll rising h)

-- The customer-seconds of a run of a network under a sheet are its part of the customer-seconds without supply.
use Rattle.std.proofs.Common.{◌≡◌, ◌∙◌, sym, ap, ap₂, refl, ℕ, ◌+◌, ◌-◌, ◌<◌, ◌≤◌, ◌==◌, ◌&&◌, Bool, true, false, cond, List, get_or, count_by, Option, inl, inr, arith}
use Rattle.std.specs.Option.{option_map_or}
use Rattle.std.proofs.Math.Bool.{and-true}
use Rattle.std.proofs.lemmas.Bool.{cases_Bool, eqb-true, and_right}
use Rattle.std.proofs.lemmas.List.FromFn.{length-range_with_len, get_or-range_with_len}
use Rattle.ob_net.specs.Network.{Network, home_feeder}
use Rattle.ob_base.specs.Seconds.{seconds}
use Rattle.ob_base.specs.declared.interval.Interval.{Interval}
use Rattle.ob_sheet.specs.declared.Entry.{Entry}
use Rattle.ob_sheet.specs.Supply.{is_deenergized}
use Rattle.ob_cust.specs.declared.Customer.{Customer}
use Rattle.ob_cust.specs.Service.{in_service}
use Rattle.ob_cust.specs.WithoutSupply.{is_without_supply}
use Rattle.ob_sweep.specs.Runs.{cause_at}
use Rattle.ob_sweep.specs.declared.Run.{Run}
use Rattle.ob_post.specs.CustomerSeconds.{Days, has_key, is_in_day}
use Rattle.ob_post.specs.declared.Dim.{Dim}
use Rattle.ob_post.specs.declared.Dim.TheVariants.{Cause, Feeder, Day}
use Rattle.ob_post.specs.RunAmounts.{counts_under, customer_seconds_in, section_seconds_by, IsRunOf}
use Rattle.ob_post.proofs.Sums.{sum_where_same}

-- at a second of the run, a customer of its section counts under the keys under which the run does
key_of_run : (net : Network) (entries : List Entry) (p : Days) (run : Run) (cause feeder : ℕ) (days : List Interval) (dim : Dim) (key : ℕ) (c : Customer) (s : ℕ) → p.days ≡ days → IsRunOf net entries p run cause feeder
    → run.since ≤ s → s < run.until → c.section ≡ run.section → has_key net entries p dim key c s ≡ counts_under cause feeder days dim key s
key_of_run net entries p run cause feeder days Cause key c s e so l u v =
    ap (λ (n : ℕ). n == key) (ap (λ (w : ℕ). cause_at net entries p.first w s) v ∙ so.posted s l u)
key_of_run net entries p run cause feeder days Feeder key c s e so l u v =
    ap (λ (o : Option ℕ). option_map_or (λ f. f == key) o false) (ap (home_feeder net) v ∙ so.home)
key_of_run net entries p run cause feeder days Day key c s e so l u v = ap (λ (ds : List Interval). is_in_day ds key s) e

-- the two tests agree at a second of the run
same_test : (net : Network) (entries : List Entry) (p : Days) (run : Run) (cause feeder : ℕ) (days : List Interval) (dim : Dim) (key : ℕ) (c : Customer) (s : ℕ) → p.days ≡ days → IsRunOf net entries p run cause feeder
    → run.since ≤ s → s < run.until
    → (in_service c s && (c.section == run.section && counts_under cause feeder days dim key s)) ≡ (c.section == run.section && (is_without_supply (is_deenergized net entries) c s && has_key net entries p dim key c s))
same_test net entries p run cause feeder days dim key c s e so l u = elim (cases_Bool (c.section == run.section)) [
  | inl t ↦
      let v : c.section ≡ run.section = eqb-true c.section run.section t in
      let dark : is_deenergized net entries c.section s ≡ true = ap (λ (w : ℕ). is_deenergized net entries w s) v ∙ so.deenergized s l u in
      let keyed : has_key net entries p dim key c s ≡ counts_under cause feeder days dim key s = key_of_run net entries p run cause feeder days dim key c s e so l u v in
      ap (λ (b : Bool). in_service c s && (b && counts_under cause feeder days dim key s)) t
      ∙ sym
      (ap₂ (λ (b d : Bool). b && ((in_service c s && d) && has_key net entries p dim key c s)) t dark
      ∙ ap (λ (k : Bool). (in_service c s && true) && k) keyed
      ∙ ap (λ (b : Bool). b && counts_under cause feeder days dim key s) (and-true (in_service c s)))
  | inr f ↦
      ap (λ (b : Bool). in_service c s && (b && counts_under cause feeder days dim key s)) f
      ∙ and_right (in_service c s) false refl
      ∙ sym (ap (λ (b : Bool). b && (is_without_supply (is_deenergized net entries) c s && has_key net entries p dim key c s)) f)
]

pub posted_is : (net : Network) (entries : List Entry) (roll : List Customer) (p : Days) (run : Run) (cause feeder : ℕ) (days : List Interval) (dim : Dim) (key : ℕ) → p.days ≡ days → IsRunOf net entries p run cause feeder
    → customer_seconds_in roll run cause feeder days dim key ≡ section_seconds_by net entries roll p run.section (seconds run.since run.until) dim key
posted_is net entries roll p run cause feeder days dim key e so =
    sum_where_same (λ s. count_by (λ c. in_service c s && (c.section == run.section && counts_under cause feeder days dim key s)) roll)
    (λ s. count_by (λ c. c.section == run.section && (is_without_supply (is_deenergized net entries) c s && has_key net entries p dim key c s)) roll)
    (seconds run.since run.until)
    (λ i d l.
    let s = get_or (seconds run.since run.until) i d in
    let n : i < run.until - run.since = omega (arith, l, length-range_with_len run.since (run.until - run.since)) in
    let at : s ≡ run.since + i = get_or-range_with_len run.since (run.until - run.since) i d n in
    sum_where_same (λ c. cond (in_service c s && (c.section == run.section && counts_under cause feeder days dim key s)) 1 0)
    (λ c. cond (c.section == run.section && (is_without_supply (is_deenergized net entries) c s && has_key net entries p dim key c s)) 1 0)
    roll
    (λ j c m. ap (λ (b : Bool). cond b 1 0) (same_test net entries p run cause feeder days dim key (get_or roll j c) s e so (omega (arith, at)) (omega (arith, at)))))

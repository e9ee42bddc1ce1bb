-- The figures of the customers of the first sections, and of one section more.
use Rattle.std.proofs.Common.{◌≡◌, ℕ, ◌+◌, ◌*◌, ◌<◌, ◌≤◌, ◌==◌, Bool, true, false, cond, nat_le, nat_lt, List, [], ◌∷◌, Option, inl, inr, length, map, get_or, slice_index, refl, sym, ◌∙◌, ap, ap₂, eqb-true, arith}
use Rattle.std.specs.List.{All, filter, sum_by, range_with_len}
use Rattle.std.proofs.lemmas.Bool.{cases_Bool, cases_order, lt-ltb, le-ltb}
use Rattle.std.proofs.lemmas.Bool.Decides.{nat_tests}
use Rattle.std.proofs.lemmas.List.Elements.{All-tail}
use Rattle.std.proofs.lemmas.List.FromFn.{length-map-range_with_len, get_or-map-range_with_len}
use Rattle.std.proofs.lemmas.List.Sums.{sum_by-cons, length-filter}
use Rattle.std.proofs.lemmas.List.{ext_get_or}
use Rattle.ob_base.specs.declared.interval.Interval.{Interval}
use Rattle.ob_cust.specs.Blocks.{service_of, sum_over_blocks, sum_over_customers}
use Rattle.ob_cust.specs.declared.Customer.{Customer}
use Rattle.ob_cust.specs.declared.SectionBlock.{SectionBlock}
use Rattle.ob_sweep.specs.Runs.{history, runs_between}
use Rattle.ob_sweep.specs.Timeline.{IsSection, runs_at}
use Rattle.ob_sweep.specs.declared.Run.{Run}
use Rattle.ob_time.specs.Calendar.{first_second_of, end_second_of}
use Rattle.ob_post.proofs.Sums.{sum_of_same, sum_of_zeros, sum_where_same}
use Rattle.ob_index.specs.Tallies.{parts_in_service}
use Rattle.ob_index.specs.declared.figures.Counts.{Counts}
use Rattle.ob_index.proofs.Blocks.{over_blocks}
use Rattle.ob_index.proofs.Kept.{sum_of_passing}
use Rattle.ob_index.proofs.Parts.{parts_are_interruptions}
use Rattle.ob_state.specs.State.{BookState}
use Rattle.ob_state.specs.States.{AreRunsOf}
use Rattle.ob_rows.specs.Rows.{customer_with}
use Rattle.ob_selections.specs.Selections.{counts_of_selection, figures_of_selection, has_section, interrupted_beyond, is_selected, lasts_longer, length_of_selection, selected}
use Rattle.ob_selections.specs.Sums.{AreMore, at_least}
use Rattle.ob_selections.specs.Tallies.{customer_of, service_on, tally, tally_by_runs, tally_of}
use Rattle.ob_selections.specs.declared.figures.Figures.{Figures}
use Rattle.ob_selections.specs.declared.figures.Tally.{Tally}
use Rattle.ob_selections.specs.declared.selection.Selection.{Selection}
use Rattle.ob_selections.proofs.Added.{Total}

-- ---- customers section by section
-- the customers of a section
abbrev pub on_section : ℕ → List Customer → List Customer
on_section v roll = filter (λ c. c.section == v) roll

-- those of sections below one
abbrev pub below : ℕ → List Customer → List Customer
below v roll = filter (λ c. nat_lt c.section v) roll

same_section : (m n : ℕ) → m ≡ n → (m == n) ≡ true
same_section m n e = grind (arith, nat_tests)

other_section : (m n : ℕ) → (m ≡ n → ⊥) → (m == n) ≡ false
other_section m n ne = grind (arith, nat_tests)

-- a sum over the customers below one section more
pub below_more : (h : Customer → ℕ) (v : ℕ) (roll : List Customer) → sum_by h (below (v + 1) roll) ≡ sum_by h (below v roll) + sum_by h (on_section v roll)
below_more h v [] = refl
below_more h v (c ∷ cs) =
    let rest = below_more h v cs in
    let high = sum_by-cons h c (below (v + 1) cs) in
    let low = sum_by-cons h c (below v cs) in
    let one = sum_by-cons h c (on_section v cs) in
    elim (cases_order c.section v) [
      | inl here ↦ rw (lt-ltb c.section (v + 1) (omega (arith, here)), le-ltb c.section v (omega (arith, here)), same_section c.section v here) (omega (arith, rest, high, one))
      | inr (inl less) ↦ rw (lt-ltb c.section (v + 1) (omega (arith, less)), lt-ltb c.section v less, other_section c.section v (λ e. omega (arith, e, less))) (omega (arith, rest, high, low))
      | inr (inr more) ↦ rw (le-ltb c.section (v + 1) (omega (arith, more)), le-ltb c.section v (omega (arith, more)), other_section c.section v (λ e. omega (arith, e, more))) rest
    ]

pub below_all : (v : ℕ) (roll : List Customer) → All (λ c. c.section < v) roll → below v roll ≡ roll
below_all v [] h = refl
below_all v (c ∷ cs) h = rw (lt-ltb c.section v (h 0 c (omega arith))) (ap (λ (ds : List Customer). c ∷ ds) (below_all v cs (All-tail (λ d. d.section < v) c cs h)))

pub below_none : (roll : List Customer) → below 0 roll ≡ []
below_none [] = refl
below_none (c ∷ cs) = rw (le-ltb c.section 0 (omega arith)) (below_none cs)

-- sums that are the same on a section
pub same_on : (h g : Customer → ℕ) (v : ℕ) → ((c : Customer) → c.section ≡ v → h c ≡ g c) → (roll : List Customer) → sum_by h (on_section v roll) ≡ sum_by g (on_section v roll)
same_on h g v same [] = refl
same_on h g v same (c ∷ cs) =
    let rest = same_on h g v same cs in
    elim (cases_Bool (c.section == v)) [
      | inl here ↦ rw here (sum_by-cons h c (on_section v cs) ∙ ap₂ (λ (m n : ℕ). m + n) (same c (eqb-true c.section v here)) rest ∙ sym (sum_by-cons g c (on_section v cs)))
      | inr off ↦ rw off rest
    ]

-- ---- what the customers of a section add
module _ (b : BookState) (x : Selection) where
  -- a tally asks for the section and the service of its customer alone
  by_service : (c : Customer) → tally_of b x (customer_with c.section (c.since, c.until)) ≡ tally_of b x c
  by_service c = refl

  -- a number of each customer's tally, over some customers
  abbrev pub over : List Customer → Total
  over roll number = sum_by (λ c. number (tally_of b x c)) roll

  -- the tally of a block is that of its customers
  pub by_runs : (runs : List Run) (c : SectionBlock) → runs ≡ runs_between c.section (history b.network b.entries c.section) (first_second_of b.period) (end_second_of b.period)
      → first_second_of b.period ≤ end_second_of b.period → has_section b x c.section ≡ true → tally_by_runs b x runs c ≡ tally_of b x (customer_of c)
  by_runs runs c defined le has =
      rw has
      (ap (λ (is : List Interval). tally x.longest (filter (is_selected b x c.section) is) (service_on b x (customer_of c)))
      (ap (parts_in_service (customer_of c)) defined ∙ parts_are_interruptions b.network b.entries b.period (customer_of c) le))

  module _ (v : ℕ) (blocks : List SectionBlock) (sums : (f : ℕ → Option ℕ → ℕ) → sum_over_blocks f (map (λ c. c.block) blocks) ≡ sum_over_customers f v b.customers) where
    abbrev of_service : (Tally → ℕ) → ℕ → Option ℕ → ℕ
    of_service number since until = number (tally_of b x (customer_with v (since, until)))

    of_customers : (number : Tally → ℕ) → sum_over_customers (of_service number) v b.customers ≡ over (on_section v b.customers) number
    of_customers number =
        same_on (λ c. of_service number c.since c.until) (λ c. number (tally_of b x c)) v
        (λ c here. ap (λ (w : ℕ). number (tally_of b x (customer_with w (c.since, c.until)))) (sym here) ∙ ap number (by_service c)) b.customers

    -- the customers of the blocks are those of the section
    pub over_section : (lists : List (List Run)) → AreRunsOf b lists → IsSection b.network v → first_second_of b.period ≤ end_second_of b.period → has_section b x v ≡ true
        → (runs : List Run) → runs ≡ runs_at lists v → All (λ c. c.section ≡ v) blocks
        → (number : Tally → ℕ) → sum_by (λ c. c.block.count * number (tally_by_runs b x runs c)) blocks ≡ over (on_section v b.customers) number
    over_section lists are section le has runs of_section own number =
        sum_where_same (λ (c : SectionBlock). c.block.count * number (tally_by_runs b x runs c)) (λ (c : SectionBlock). c.block.count * of_service number c.block.since c.block.until) blocks
        (λ k d l.
        let c = get_or blocks k d in
        let here : c.section ≡ v = own k d l in
        let defined = of_section ∙ are.defined v section ∙ ap (λ (w : ℕ). runs_between w (history b.network b.entries w) (first_second_of b.period) (end_second_of b.period)) (sym here) in
        ap (λ (t : Tally). c.block.count * number t) (by_runs runs c defined le (ap (has_section b x) here ∙ has) ∙ ap (λ (w : ℕ). tally_of b x (customer_with w (service_of c.block))) here))
        ∙ over_blocks (of_service number) blocks
        ∙ sums (of_service number)
        ∙ of_customers number

    -- no block, no customer
    pub nobody : length blocks ≡ 0 → (number : Tally → ℕ) → over (on_section v b.customers) number ≡ 0
    nobody none number =
        sym (of_customers number) ∙ sym (sums (of_service number)) ∙ empty (of_service number) blocks none
      where
        empty : (f : ℕ → Option ℕ → ℕ) (cs : List SectionBlock) → length cs ≡ 0 → sum_over_blocks f (map (λ c. c.block) cs) ≡ 0
        empty f [] e = refl
        empty f (c ∷ cs) e = absurd (omega (arith, e))

  left_out : (c : Customer) → has_section b x c.section ≡ false → tally_of b x c ≡ tally x.longest [] 0
  left_out c off = rw off refl

  -- the customers of a section that is left out add nothing
  pub none_selected : (v : ℕ) → has_section b x v ≡ false → (number : Tally → ℕ) → number (tally x.longest [] 0) ≡ 0 → over (on_section v b.customers) number ≡ 0
  none_selected v off number zero =
      same_on (λ c. number (tally_of b x c)) (λ c. 0) v (λ c here. ap number (left_out c (ap (has_section b x) here ∙ off)) ∙ zero) b.customers
      ∙ sum_of_zeros (on_section v b.customers)

  pub reaches_none : (j : ℕ) → at_least (1 + j) (tally x.longest [] 0) ≡ 0
  reaches_none j = let none : nat_le (1 + j) 0 ≡ false = grind (arith, nat_tests) in ap (λ (t : Bool). cond t 1 0) none

-- ---- all figures
-- the figures are sums
pub record AreSummed (total : Total) (k : Figures) : Type 0 where
  pub sustained : k.counts.ci ≡ total (λ t. t.sustained)
  pub seconds : k.counts.csi ≡ total (λ t. t.seconds)
  pub momentary : k.counts.mi ≡ total (λ t. t.momentary)
  pub customers : k.counts.cn ≡ total (at_least 1)
  pub places : length k.counts.cn_n ≡ 10
  pub each : (j : ℕ) → j < 10 → slice_index k.counts.cn_n j ≡ total (at_least (1 + j))
  pub served : k.served ≡ total (λ t. t.served)

pub summed_more : (was more now : Total) (k m : Figures) → ((number : Tally → ℕ) → now number ≡ was number + more number) → AreSummed was k → AreMore more k m → AreSummed now m
summed_more was more now k m sum sofar then = record {
  sustained = add k.counts.ci m.counts.ci (λ t. t.sustained) sofar.sustained then.sustained;
  seconds = add k.counts.csi m.counts.csi (λ t. t.seconds) sofar.seconds then.seconds;
  momentary = add k.counts.mi m.counts.mi (λ t. t.momentary) sofar.momentary then.momentary;
  customers = add k.counts.cn m.counts.cn (at_least 1) sofar.customers then.customers;
  places = then.places ∙ sofar.places;
  each = λ j small. add (slice_index k.counts.cn_n j) (slice_index m.counts.cn_n j) (at_least (1 + j)) (sofar.each j small) (then.each j small);
  served = add k.served m.served (λ t. t.served) sofar.served then.served;
}
  where
    add : (a b : ℕ) (number : Tally → ℕ) → a ≡ was number → b ≡ a + more number → b ≡ now number
    add a b number before after = let all = sum number in omega (arith, before, after, all)

same_counts : (k m : Counts) → k.ci ≡ m.ci → k.csi ≡ m.csi → k.cn ≡ m.cn → k.cn_n ≡ m.cn_n → k.mi ≡ m.mi → k ≡ m
same_counts k m ci csi cn cn_n mi =
    ap (λ (x : ℕ). let y : Counts = record { ci = x; csi = k.csi; cn = k.cn; cn_n = k.cn_n; mi = k.mi } in y) ci
    ∙ ap (λ (x : ℕ). let y : Counts = record { ci = m.ci; csi = x; cn = k.cn; cn_n = k.cn_n; mi = k.mi } in y) csi
    ∙ ap (λ (x : ℕ). let y : Counts = record { ci = m.ci; csi = m.csi; cn = x; cn_n = k.cn_n; mi = k.mi } in y) cn
    ∙ ap (λ (x : List ℕ). let y : Counts = record { ci = m.ci; csi = m.csi; cn = m.cn; cn_n = x; mi = k.mi } in y) cn_n
    ∙ ap (λ (x : ℕ). let y : Counts = record { ci = m.ci; csi = m.csi; cn = m.cn; cn_n = m.cn_n; mi = x } in y) mi

same_figures : (k m : Figures) → k.counts ≡ m.counts → k.served ≡ m.served → k.length ≡ m.length → k ≡ m
same_figures k m counts served long =
    ap (λ (x : Counts). let y : Figures = record { counts = x; served = k.served; length = k.length } in y) counts
    ∙ ap (λ (x : ℕ). let y : Figures = record { counts = m.counts; served = x; length = k.length } in y) served
    ∙ ap (λ (x : ℕ). let y : Figures = record { counts = m.counts; served = m.served; length = x } in y) long

module _ (b : BookState) (x : Selection) where
  over_interrupted : (j : ℕ) → over b x b.customers (at_least j) ≡ interrupted_beyond x.longest (selected b x) b.customers j
  over_interrupted j =
      sum_of_same (λ c. at_least j (tally_of b x c)) (λ c. cond (nat_le j (length (filter (lasts_longer x.longest) (selected b x c)))) 1 0) b.customers
      (λ c. ap (λ (n : ℕ). cond (nat_le j n) 1 0) (sym (length-filter (lasts_longer x.longest) (selected b x c))))

  counts_are : (k : Figures) → AreSummed (over b x b.customers) k → k.counts ≡ counts_of_selection b x
  counts_are k summed =
      let ten : length k.counts.cn_n ≡ 10 = summed.places in
      same_counts k.counts (counts_of_selection b x) summed.sustained summed.seconds (summed.customers ∙ over_interrupted 1)
      (ext_get_or 0 k.counts.cn_n (map (interrupted_beyond x.longest (selected b x) b.customers) (range_with_len 1 10)) (ten ∙ sym (length-map-range_with_len (interrupted_beyond x.longest (selected b x) b.customers) 1 10))
      (λ j l.
      let small : j < 10 = omega (arith, l, ten) in
      summed.each j small ∙ over_interrupted (1 + j)
      ∙ sym (get_or-map-range_with_len (interrupted_beyond x.longest (selected b x) b.customers) 1 10 j (1 + j) 0 small (omega arith))))
      summed.momentary

  -- the sums over all customers are the figures of the selection
  pub figures_are : (k : Figures) → AreSummed (over b x b.customers) k → k.length ≡ length_of_selection b x → k ≡ figures_of_selection b x
  figures_are k summed long =
      same_figures k (figures_of_selection b x) (counts_are k summed)
      (summed.served ∙ sym (sum_of_passing (λ (c : Customer). has_section b x c.section) (service_on b x) b.customers)) long

-- The figures of the whole are the book's own.
use Rattle.std.proofs.Common.{◌≡◌, refl, ap, ◌∙◌, ℕ, zero, suc, ◌+◌, ◌-◌, ◌<◌, ◌≤◌, Bool, true, cond, List, [], ◌∷◌, map, inl, inr, arith}
use Rattle.std.specs.List.{filter, range_with_len}
use Rattle.std.proofs.lemmas.Bool.{cases_Bool, le-leb, lt-ltb}
use Rattle.ob_base.specs.Seconds.{interval_from, starts_at}
use Rattle.ob_base.specs.declared.interval.Interval.{Interval}
use Rattle.ob_sheet.specs.Supply.{is_deenergized}
use Rattle.ob_cust.specs.WithoutSupply.{is_without_supply}
use Rattle.ob_cust.specs.declared.Customer.{Customer}
use Rattle.ob_time.specs.Calendar.{first_second_of, end_second_of}
use Rattle.ob_index.specs.Counts.{counts_of}
use Rattle.ob_index.specs.Interruptions.{counted, is_counted}
use Rattle.ob_index.specs.declared.figures.Which.{Which}
use Rattle.ob_state.specs.State.{BookState}
use Rattle.ob_book.specs.Views.{counts_of_book, service_of_book}
use Rattle.ob_selections.specs.Selections.{counts_of_selection, days_of_selection, is_selected, selected, service_in, service_of_selection, whole}
use Rattle.ob_selections.specs.SelectionLaws.{WholeIsBooksOwn}

-- what passes one test passes the other, where they agree on what starts in the range
kept_same : (f : ℕ → Interval) (g : ℕ → Bool) (p q : Interval → Bool) (s n : ℕ) → ((t : ℕ) → s ≤ t → t < s + n → p (f t) ≡ q (f t))
    → filter p (map f (filter g (range_with_len s n))) ≡ filter q (map f (filter g (range_with_len s n)))
kept_same f g p q s zero same = refl
kept_same f g p q s (suc n) same =
    let rest = kept_same f g p q (s + 1) n (λ t low high. same t (omega (arith, low)) (omega (arith, high))) in
    elim (cases_Bool (g s)) [
      | inl starts ↦ rw starts (
          ap (λ b. cond b (f s ∷ filter p (map f (filter g (range_with_len (s + 1) n)))) (filter p (map f (filter g (range_with_len (s + 1) n))))) (same s (omega arith) (omega arith))
          ∙ ap (λ (is : List Interval). cond (q (f s)) (f s ∷ is) is) rest)
      | inr none ↦ rw none rest
    ]

-- one that starts in the period is selected where it counts
passes_whole : (b : BookState) (which : Which) (longest v : ℕ) (i : Interval) → first_second_of b.period ≤ i.since → i.since < end_second_of b.period
    → is_selected b (whole b which longest) v i ≡ is_counted b.period b.marks which i
passes_whole b which longest v i low high = rw (le-leb (first_second_of b.period) i.since low, lt-ltb i.since (end_second_of b.period) high) refl

pub selected_is : (b : BookState) (which : Which) (longest : ℕ) (c : Customer) → selected b (whole b which longest) c ≡ counted b.network b.entries b.period b.marks which c
selected_is b which longest c =
    let test = is_without_supply (is_deenergized b.network b.entries) c in
    let first = first_second_of b.period in
    let end = end_second_of b.period in
    kept_same (interval_from test end) (starts_at test first) (is_selected b (whole b which longest) c.section) (is_counted b.period b.marks which) first (end - first)
    (λ t low high. passes_whole b which longest c.section (interval_from test end t) low (omega (arith, high, low)))

whole_counts : (b : BookState) (which : Which) → counts_of_selection b (whole b which 300) ≡ counts_of_book b which
whole_counts b which = λ t. counts_of (λ c. selected_is b which 300 c t) b.customers

-- all customers
all_kept : (roll : List Customer) → filter (λ c. true) roll ≡ roll
all_kept [] = refl
all_kept (c ∷ roll) = ap (λ (cs : List Customer). c ∷ cs) (all_kept roll)

whole_service : (b : BookState) (which : Which) → service_of_selection b (whole b which 300) ≡ service_of_book b
whole_service b which = ap (λ (cs : List Customer). service_in (days_of_selection b (whole b which 300)) cs) (all_kept b.customers)

pub whole_is : WholeIsBooksOwn
whole_is b which = record { counts = whole_counts b which; service = whole_service b which; length = refl }

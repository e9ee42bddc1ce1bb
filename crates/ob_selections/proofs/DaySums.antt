-- Days: each interruption begins on one.
use Rattle.std.proofs.Common.{◌≡◌, ◌∙◌, ap, refl, subst, ℕ, zero, suc, ◌+◌, ◌<◌, ◌≤◌, ◌&&◌, Bool, true, false, nat_le, nat_lt, Some, inl, inr, arith}
use Rattle.std.specs.List.{range_with_len}
use Rattle.std.proofs.lemmas.Bool.{and_from, and_parts, cases_Bool, cases_lt, le-leb, lt-ltb, leb-true, ltb-true}
use Rattle.ob_cust.specs.declared.Customer.{Customer}
use Rattle.ob_time.specs.Calendar.{Calendar, IsCalendar, bound_of, day_at, day_count, first_second_of, end_second_of, holds}
use Rattle.ob_index.specs.Interruptions.{is_counted}
use Rattle.ob_index.specs.Table.{date_of}
use Rattle.ob_index.specs.declared.figures.Which.{Which}
use Rattle.ob_index.specs.declared.figures.Which.TheVariants.{All}
use Rattle.ob_state.specs.State.{BookState}
use Rattle.ob_selections.specs.Listed.{Keyed, places_of, selection_at}
use Rattle.ob_selections.specs.Selections.{days_of_selection, figures_of_selection, has_at, whole}
use Rattle.ob_selections.specs.SumLaws.{DaysAddUp, PartsAddUp, among}
use Rattle.ob_selections.specs.declared.selection.By.TheVariants.{Day}
use Rattle.ob_selections.proofs.Bounds.{bound_at_most}
use Rattle.ob_selections.proofs.Shares.{IsOnce, begins, begun, found_hold, has, hit, momentary_add_up, seconds_add_up, sustained_add_up}

-- ---- the day of a second
pub record LiesIn (c : Calendar) (n s : ℕ) : Type 0 where
  pub day : ℕ
  pub before : day < n
  pub low : bound_of c day ≤ s
  pub high : s < bound_of c (day + 1)

pub lies_in : (c : Calendar) (n s : ℕ) → bound_of c 0 ≤ s → s < bound_of c n → LiesIn c n s
lies_in c zero s low high = absurd (omega (arith, low, high))
lies_in c (suc n) s low high = elim (cases_lt s (bound_of c n)) [
  | inl less ↦
      let d = lies_in c n s low less in
      let before = d.before in
      record { day = d.day; before = omega (arith, before); low = d.low; high = d.high }
  | inr from ↦
      let next : suc n ≡ n + 1 = omega arith in
      record { day = n; before = omega arith; low = from; high = subst (λ (k : ℕ). s < bound_of c k) next high }
]

-- a bound that is no later than a second of a day is the day's or an earlier one
pub no_later : (c : Calendar) (j d s : ℕ) → IsCalendar c → j ≤ day_count c → bound_of c j ≤ s → s < bound_of c (d + 1) → j ≤ d
no_later c j d s kept within low high = elim (cases_lt d j) [
  | inl less ↦ let le = bound_at_most c (d + 1) j kept (omega (arith, less)) within in absurd (omega (arith, le, low, high))
  | inr from ↦ from
]

-- and a bound that is later is a later one
pub later : (c : Calendar) (j d s : ℕ) → IsCalendar c → d ≤ day_count c → bound_of c d ≤ s → s < bound_of c j → d < j
later c j d s kept within low high = elim (cases_lt d j) [
  | inl less ↦ less
  | inr from ↦ let le = bound_at_most c j d kept from within in absurd (omega (arith, le, low, high))
]

-- the period has each of its seconds
pub in_period : (b : BookState) (which : Which) (longest s : ℕ) → first_second_of b.period ≤ s → s < end_second_of b.period → has_at (days_of_selection b (whole b which longest)) s ≡ true
in_period b which longest s low high = and_from (nat_le (first_second_of b.period) s) (nat_lt s (end_second_of b.period)) (le-leb (first_second_of b.period) s low) (lt-ltb s (end_second_of b.period) high)

-- a false test among others
pub second_off : (p q r : Bool) → (p && (q && false && true && r)) ≡ false
second_off false q r = refl
second_off true false r = refl
second_off true true r = refl

module _ (b : BookState) (which : Which) (longest : ℕ) where
  abbrev key : ℕ → Keyed
  key d = (date_of b.period d, record (whole b All longest) { day = Some d })

  module _ (kept : IsCalendar b.period) where
    here : (c : Customer) (s d : ℕ) → holds (day_at b.period d) s ≡ true → hit b which longest c s (Some (key d)) ≡ has b which longest (whole b which longest) c s
    here c s d in_it =
        ap (λ (t : Bool). begins b which longest c s && (has_at (days_of_selection b (whole b which longest)) s && t && true && is_counted b.period b.marks which (begun b which longest c s))) in_it

    off : (c : Customer) (s d : ℕ) → holds (day_at b.period d) s ≡ false → hit b which longest c s (Some (key d)) ≡ false
    off c s d out =
        ap (λ (t : Bool). begins b which longest c s && (has_at (days_of_selection b (whole b which longest)) s && t && true && is_counted b.period b.marks which (begun b which longest c s))) out
        ∙ second_off (begins b which longest c s) (has_at (days_of_selection b (whole b which longest)) s) (is_counted b.period b.marks which (begun b which longest c s))

    apart_from : (s d j : ℕ) → bound_of b.period d ≤ s → s < bound_of b.period (d + 1) → d < day_count b.period → j < day_count b.period → (j ≡ d → ⊥) → holds (day_at b.period j) s ≡ false
    apart_from s d j low high in_it within apart = elim (cases_Bool (holds (day_at b.period j) s)) [
      | inl t ↦
          let parts = and_parts (nat_le (bound_of b.period j) s) (nat_lt s (bound_of b.period (j + 1))) t in
          let from = leb-true (bound_of b.period j) s parts.0 in
          let to = ltb-true s (bound_of b.period (j + 1)) parts.1 in
          let le = no_later b.period j d s kept (omega (arith, within)) from high in
          let ge = no_later b.period d j s kept (omega (arith, in_it)) low to in
          absurd (apart (omega (arith, le, ge)))
      | inr f ↦ f
    ]

    once : (c : Customer) (s : ℕ) → first_second_of b.period ≤ s → s < end_second_of b.period → IsOnce b which longest (selection_at b Day longest) (places_of b Day) c s
    once c s low high =
        let d = lies_in b.period (day_count b.period) s low high in
        record {
          place = d.day;
          within = d.before;
          here = here c s d.day (and_from (nat_le (bound_of b.period d.day) s) (nat_lt s (bound_of b.period (d.day + 1))) (le-leb (bound_of b.period d.day) s d.low) (lt-ltb s (bound_of b.period (d.day + 1)) d.high));
          others = λ j within apart. off c s j (apart_from s d.day j d.low d.high d.before within apart);
        }

    pub days : PartsAddUp b Day which longest
    days = record {
      interruptions = record {
        sustained = sustained_add_up b which longest (selection_at b Day longest) (places_of b Day) once;
        seconds = seconds_add_up b which longest (selection_at b Day longest) (places_of b Day) once;
        momentary = momentary_add_up b which longest (selection_at b Day longest) (places_of b Day) once;
      };
      served = found_hold (λ k. (figures_of_selection b (among which longest k)).served ≡ (figures_of_selection b (whole b which longest)).served) (selection_at b Day longest) (range_with_len 0 (places_of b Day)) (λ n. refl);
      length = found_hold (λ k. (figures_of_selection b (among which longest k)).length ≡ (figures_of_selection b (whole b which longest)).length) (selection_at b Day longest) (range_with_len 0 (places_of b Day)) (λ n. refl);
    }

pub days_add_up : DaysAddUp
days_add_up b which longest kept = days b which longest kept

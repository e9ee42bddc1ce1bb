-- Causes: each interruption has one.
use Rattle.std.proofs.Common.{◌≡◌, ◌∙◌, ap, refl, sym, ℕ, ◌<◌, ◌≤◌, ◌==◌, ◌&&◌, Bool, true, false, is_some, List, [], ◌∷◌, Option, Some, None, IfSome, IsTrue, inl, inr, eq-eqb, arith}
use Rattle.std.specs.List.{All as Each, range_with_len}
use Rattle.std.specs.Option.{option_and_then, option_map, option_map_or}
use Rattle.std.proofs.lemmas.Bool.{cases_Bool, ne_eqb, true≢false}
use Rattle.std.proofs.lemmas.List.Elements.{All-tail}
use Rattle.ob_sheet.specs.declared.Entry.{Entry}
use Rattle.ob_sheet.specs.Order.{cause_of}
use Rattle.ob_cust.specs.declared.Customer.{Customer}
use Rattle.ob_sweep.specs.Cutters.{cutter_at}
use Rattle.ob_sweep.specs.Runs.{history, start_of}
use Rattle.ob_time.specs.Calendar.{first_second_of, end_second_of}
use Rattle.ob_index.specs.Interruptions.{is_counted}
use Rattle.ob_index.specs.declared.figures.Which.{Which}
use Rattle.ob_index.specs.declared.figures.Which.TheVariants.{All}
use Rattle.ob_state.specs.State.{BookState, cause_name_of, has_cause}
use Rattle.ob_rows.specs.Rows.{posted_cause}
use Rattle.ob_selections.specs.Listed.{Keyed, places_of, selection_at}
use Rattle.ob_selections.specs.Selections.{days_of_selection, figures_of_selection, has_at, whole}
use Rattle.ob_selections.specs.SumLaws.{CausesAddUp, HaveCauseNames, PartsAddUp, among}
use Rattle.ob_selections.specs.declared.selection.By.TheVariants.{Cause}
use Rattle.ob_selections.proofs.Shares.{IsOnce, begins, begun, found_hold, hit, momentary_add_up, seconds_add_up, sustained_add_up}

-- ---- the cause of an interruption
-- what holds of 0 and of the cause of each entry holds of the one with a number
of_entry : (P : ℕ → Type 0) (entries : List Entry) (number : ℕ) → P 0 → Each (λ e. P e.cause) entries → P (cause_of entries number)
of_entry P [] number zero each = zero
of_entry P (e ∷ es) number zero each = elim (cases_Bool (e.no == number)) [
  | inl t ↦ rw t (each 0 e (omega arith))
  | inr f ↦ rw f (of_entry P es number zero (All-tail (λ x. P x.cause) e es each))
]

of_cutter : (P : ℕ → Type 0) (entries : List Entry) (o : Option ℕ) → P 0 → Each (λ e. P e.cause) entries → P (option_map_or (cause_of entries) o 0)
of_cutter P entries None zero each = zero
of_cutter P entries (Some number) zero each = of_entry P entries number zero each

-- a false test among others
third_off : (p q r : Bool) → (p && (q && true && false && r)) ≡ false
third_off false q r = refl
third_off true false r = refl
third_off true true r = refl

name_of : {X : Type 0} (o : Option X) → IsTrue (is_some o) → (x : X) × (o ≡ Some x)
name_of None some = absurd (true≢false (sym some))
name_of (Some x) some = (x, refl)

module _ (b : BookState) (which : Which) (longest : ℕ) where
  abbrev key : ℕ → List ℕ → Keyed
  key k name = (name, record (whole b All longest) { cause = Some k })

  module _ (named : HaveCauseNames b) where
    cause_is : (v s : ℕ) → (posted_cause b v s < 64) × IsTrue (has_cause b.causes (posted_cause b v s))
    cause_is v s =
        of_cutter (λ k. (k < 64) × IsTrue (has_cause b.causes k)) b.entries (option_and_then (cutter_at b.network b.entries v) (start_of (history b.network b.entries v) (first_second_of b.period) s))
        (omega arith, named.unassigned) named.entries

    -- the tests of an interruption, where the cause's is this
    abbrev tests : Customer → ℕ → Bool → Bool
    tests c s t = begins b which longest c s && (has_at (days_of_selection b (whole b which longest)) s && true && t && is_counted b.period b.marks which (begun b which longest c s))

    others : (c : Customer) (s j : ℕ) (o : Option (List ℕ)) → (j ≡ posted_cause b c.section s → ⊥) → hit b which longest c s (option_map (key j) o) ≡ false
    others c s j None apart = refl
    others c s j (Some name) apart =
        ap (tests c s) (ne_eqb j (posted_cause b c.section s) apart)
        ∙ third_off (begins b which longest c s) (has_at (days_of_selection b (whole b which longest)) s) (is_counted b.period b.marks which (begun b which longest c s))

    once : (c : Customer) (s : ℕ) → first_second_of b.period ≤ s → s < end_second_of b.period → IsOnce b which longest (selection_at b Cause longest) (places_of b Cause) c s
    once c s low high =
        let k = posted_cause b c.section s in
        let known = cause_is c.section s in
        let name = name_of (cause_name_of b.causes k) known.1 in
        record {
          place = k;
          within = known.0;
          here = ap (λ (o : Option (List ℕ)). hit b which longest c s (option_map (key k) o)) name.1 ∙ ap (tests c s) (eq-eqb k k refl);
          others = λ j within apart. others c s j (cause_name_of b.causes j) apart;
        }

    same_service : (n : ℕ) (o : Option (List ℕ)) → IfSome (option_map (key n) o) (λ k. (figures_of_selection b (among which longest k)).served ≡ (figures_of_selection b (whole b which longest)).served)
    same_service n None = tt
    same_service n (Some name) = refl

    same_length : (n : ℕ) (o : Option (List ℕ)) → IfSome (option_map (key n) o) (λ k. (figures_of_selection b (among which longest k)).length ≡ (figures_of_selection b (whole b which longest)).length)
    same_length n None = tt
    same_length n (Some name) = refl

    pub causes : PartsAddUp b Cause which longest
    causes = record {
      interruptions = record {
        sustained = sustained_add_up b which longest (selection_at b Cause longest) (places_of b Cause) once;
        seconds = seconds_add_up b which longest (selection_at b Cause longest) (places_of b Cause) once;
        momentary = momentary_add_up b which longest (selection_at b Cause longest) (places_of b Cause) once;
      };
      served = found_hold (λ k. (figures_of_selection b (among which longest k)).served ≡ (figures_of_selection b (whole b which longest)).served) (selection_at b Cause longest) (range_with_len 0 (places_of b Cause)) (λ n. same_service n (cause_name_of b.causes n));
      length = found_hold (λ k. (figures_of_selection b (among which longest k)).length ≡ (figures_of_selection b (whole b which longest)).length) (selection_at b Cause longest) (range_with_len 0 (places_of b Cause)) (λ n. same_length n (cause_name_of b.causes n));
    }

pub causes_add_up : CausesAddUp
causes_add_up b which longest named = causes b which longest named

-- Where no section's runs change, the empty delta alone leads from the old runs to the new ones; and the law of changes
-- that change no position.
use Rattle.std.proofs.Common.{◌≡◌, ◌==◌, ℕ, ◌≤◌, false, List, [], ◌∷◌, Some, refl, sym, ◌∙◌, arith, subst, inl, inr}
use Rattle.std.specs.Prelude.{◌↔◌}
use Rattle.std.proofs.lemmas.Bool.{cases_Bool, cond-false, cond-true, eq-eqb}
use Rattle.ob_net.specs.Network.{Network}
use Rattle.ob_sheet.specs.declared.Entry.{Entry}
use Rattle.ob_sweep.specs.Deltas.{IsDelta, new_runs}
use Rattle.ob_sweep.specs.Laws.{SamePositionsLaw}
use Rattle.ob_sweep.specs.Runs.{history, runs_between}
use Rattle.ob_sweep.specs.SamePositions.{changes_no_position}
use Rattle.ob_sweep.specs.Searches.{sheet_searches}
use Rattle.ob_sweep.specs.SheetChanges.{with_change}
use Rattle.ob_sweep.specs.Timeline.{IsSection, runs_at}
use Rattle.ob_sweep.specs.Windows.{window_searches}
use Rattle.ob_sweep.specs.declared.Run.{Run}
use Rattle.ob_sweep.specs.declared.change.SheetChange.{SheetChange}
use Rattle.ob_sweep.proofs.KeptRuns.{change_is_alike, keeps_positions}
use Rattle.ob_sweep.proofs.LifePlan.{nothing_new}

module _ (net : Network) (lists : List (List Run)) (now : ℕ → List Run) (same : (v : ℕ) → IsSection net v → now v ≡ runs_at lists v) where
  none_named : (delta : List (ℕ × List Run)) → IsDelta net delta lists now → delta ≡ []
  none_named [] is = refl
  none_named (x ∷ delta) is =
      let found : new_runs (x ∷ delta) x.0 ≡ Some x.1 = cond-true (x.0 == x.0) (Some x.1) (new_runs delta x.0) (eq-eqb x.0 x.0 refl) in
      absurd ((is.named x.0 x.1 found).1 (same x.0 (is.sections x.0 x.1 found)))

  empty_alone : (delta : List (ℕ × List Run)) → IsDelta net delta lists now ↔ (delta ≡ [])
  empty_alone delta =
      (none_named delta, λ is. subst (λ (d : List (ℕ × List Run)). IsDelta net d lists now) (sym is) (nothing_new net lists now same))

pub same_positions_law : SamePositionsLaw
same_positions_law net change entries numbered ok none =
    let alike = change_is_alike net change entries numbered ok none in
    record {
      positions = keeps_positions net entries (with_change change entries) alike;
      runs = alike.runs;
      delta = λ a b lists delta l were.
          empty_alone net lists (λ v. runs_between v (history net (with_change change entries) v) a b)
          (λ v section. alike.runs v a b l ∙ sym (were.defined v section)) delta;
      searches = λ last. cond-true (changes_no_position net change entries) 0 (window_searches net change entries last) none;
    }

-- where a change may change a position, the searches are those of its window; they are never more
searches_of_window : (net : Network) (change : SheetChange) (entries : List Entry) (last : ℕ) → changes_no_position net change entries ≡ false
    → sheet_searches net change entries last ≡ window_searches net change entries last
searches_of_window net change entries last some =
    cond-false (changes_no_position net change entries) 0 (window_searches net change entries last) some

pub at_most_window : (net : Network) (change : SheetChange) (entries : List Entry) (last : ℕ) → sheet_searches net change entries last ≤ window_searches net change entries last
at_most_window net change entries last =
    elim (cases_Bool (changes_no_position net change entries)) as (λ _. sheet_searches net change entries last ≤ window_searches net change entries last) [
      | inl t ↦ let none = cond-true (changes_no_position net change entries) 0 (window_searches net change entries last) t in omega (arith, none)
      | inr n ↦ omega (arith, searches_of_window net change entries last n)
    ]

use Rattle.std.proofs.Common.{◌≡◌, ◌∙◌, sym, ap, subst, ℕ, List, Option, None, IsSome, is_some, inl, inr}
use Rattle.std.specs.List.{Contains}
use Rattle.std.proofs.lemmas.Bool.{cases_Bool}
use Rattle.std.proofs.lemmas.List.Elements.{All-contains}
use Rattle.ob_sweep.specs.Deltas.{new_runs}
use Rattle.ob_sweep.specs.declared.Run.{Run}
use Rattle.ob_state.proofs.Among.{is_among, isnt_among}
use Rattle.ob_state.proofs.Deltas.{untouched}
use Rattle.ob_book.proofs.Unchanged.{is_found}
use Rattle.ob_book.proofs.intervals.is_touched.Goals as goal

pub returns : goal.returns
returns c =
    let touched = c.touched.result.now in
    let delta = c.args.delta.now in
    let v = c.args.node in
    elim (cases_Bool c.is_ok.result) as (λ _. c.is_ok.result ≡ is_some (new_runs delta v)) [
      | inl named ↦
          let at = is_among touched v c.binary_search.result c.touched.ensures.rising c.binary_search.ensures.position (sym c.is_ok.ensures.value ∙ named) in
          named ∙ sym (is_found (new_runs delta v) (All-contains (λ (w : ℕ). IsSome (new_runs delta w)) touched v c.touched.ensures.named at))
      | inr not ↦
          let apart = isnt_among touched v c.binary_search.result c.touched.ensures.rising c.binary_search.ensures.position (sym c.is_ok.ensures.value ∙ not) in
          let none : new_runs delta v ≡ None = untouched delta v (λ at. apart (subst (λ xs. Contains xs v) (sym c.touched.ensures.sections) at)) in
          not ∙ sym (ap (λ (o : Option (List Run)). is_some o) none)
    ]

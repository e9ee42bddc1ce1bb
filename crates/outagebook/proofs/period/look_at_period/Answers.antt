use Rattle.std.proofs.Common.{Err, Result, ap, refl, ◌≡◌}
use Rattle.std.proofs.lemmas.Result.{IfErr-at_err, err_from_is_err_and}
use Rattle.ob_base.specs.declared.stop.Stop.{Stop}
use Rattle.outagebook.proofs.period.look_at_period.Goals as goal

abbrev error : (A : Type 0) → Stop → Result A Stop
error A stop = Err stop

-- errors are the same whatever a success would have given
as_error : (A B : Type 0) (s t : Stop) → error A s ≡ error A t → error B s ≡ error B t
as_error A B s t h = ap (error B) (IfErr-at_err (λ (y : Stop). s ≡ y) {r = error A s} h refl)

pub returns-in_err-from_text-clause-refused : goal.returns-in_err-from_text-clause-refused
returns-in_err-from_text-clause-refused c =
    let p = err_from_is_err_and c.from_residual.result c.from_residual.ensures.1 in
    let refused = c.in_err-from_text.ensures.refused in
    rw (p.1, p.2) (λ e. refused.0 (as_error _ _ _ _ e), λ h. as_error _ _ _ _ (refused.1 h))

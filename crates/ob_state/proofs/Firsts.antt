-- The first refusal of a list.
use Rattle.std.proofs.Common.{◌≡◌, List, [], ◌∷◌, ◌++◌, Option, Some, None, refl}
use Rattle.std.specs.Option.{option_or}
use Rattle.ob_base.specs.declared.stop.Refusal.{Refusal}
use Rattle.ob_state.specs.Refusals.{first}

-- the first of a list with one more is the first of the list, or else the new one
pub first-push : (xs : List (Option Refusal)) (y : Option Refusal) → first (xs ++ y ∷ []) ≡ option_or (first xs) y
first-push [] None = refl
first-push [] (Some r) = refl
first-push (None ∷ xs) y = first-push xs y
first-push (Some r ∷ xs) y = refl

-- where the first refusal of a list has no cause, its head has none
pub no_head : (x : Option Refusal) (xs : List (Option Refusal)) → first (x ∷ xs) ≡ None → x ≡ None
no_head None xs h = refl
no_head (Some r) xs h = h

-- What a command moved has no float as JSON.
use Rattle.std.proofs.Common.{◌≡◌, refl, ℕ, ℤ, pos, negsuc, false, List, [], ◌∷◌, map}
use Rattle.serde_json.specs.Find.{is_float, of_integer}
use Rattle.serde_json.specs.View.{items_of}
use Rattle.serde_json.specs.Written.{has_float, items_have_float}
use Rattle.ob_post.specs.declared.Moved.{Moved}
use Rattle.ob_http_replies.specs.Bodies.{accepted_data, move_data}

integer_is_none : (z : ℤ) → is_float (of_integer z) ≡ false
integer_is_none (pos n) = refl
integer_is_none (negsuc n) = refl

moves_have_none : (moved : List Moved) → items_have_float (items_of (map move_data moved)) ≡ false
moves_have_none [] = refl
moves_have_none (m ∷ moved) = rw (integer_is_none m.delta) (moves_have_none moved)

pub accepted_has_none : (place : ℕ) (moved : List Moved) → has_float (accepted_data place moved) ≡ false
accepted_has_none place moved = rw (moves_have_none moved) refl

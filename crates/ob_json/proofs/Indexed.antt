-- The indices as JSON have no float.
use Rattle.std.proofs.Common.{◌≡◌, refl, false, List, [], ◌∷◌, map, Option, Some, None}
use Rattle.serde_json.specs.View.{items_of}
use Rattle.serde_json.specs.Written.{has_float, items_have_float}
use Rattle.ob_index.specs.Ratio.{Ratio}
use Rattle.ob_index.specs.declared.figures.Indices.{Indices}
use Rattle.ob_json.specs.Indices.{index_data, indices_data, both_data}

index_has_none : (q : Option Ratio) → has_float (index_data q) ≡ false
index_has_none None = refl
index_has_none (Some f) = refl

list_has_none : (qs : List (Option Ratio)) → items_have_float (items_of (map index_data qs)) ≡ false
list_has_none [] = refl
list_has_none (q ∷ qs) = rw (index_has_none q) (list_has_none qs)

indices_have_none : (x : Indices) → has_float (indices_data x) ≡ false
indices_have_none x = rw (index_has_none x.asai, index_has_none x.caidi, index_has_none x.caifi, list_has_none x.cemi, index_has_none x.saidi, index_has_none x.saifi) refl

pub both_have_none : (x y : Indices) → has_float (both_data x y) ≡ false
both_have_none x y = rw (indices_have_none x, indices_have_none y) refl

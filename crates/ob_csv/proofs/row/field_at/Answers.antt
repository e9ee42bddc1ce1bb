use Rattle.std.proofs.Common.{◌≡◌, ◌∙◌, ℕ, zero, suc, Bor, List, [], ◌∷◌, Option, Some, None, ap, get_or, refl}
use Rattle.std.specs.Option.{option_map}
use Rattle.std.specs.Prelude.{unwrap_or}
use Rattle.csv.specs.Records.{field_at, fields_of}
use Rattle.ob_csv.proofs.row.field_at.Goals as goal

-- what is behind the field, or behind what stands for none
behind : (o : Option (Bor (List ℕ))) (d : Bor (List ℕ)) → (unwrap_or o d).now ≡ unwrap_or (option_map (λ s. s.now) o) d.now
behind None d = refl
behind (Some x) d = refl

-- the field at a place, or an empty one
field_or_none : (fields : List (List ℕ)) (i : ℕ) → unwrap_or (field_at fields i) [] ≡ get_or fields i []
unfolding field_at
field_or_none [] i = refl
field_or_none (f ∷ fs) zero = refl
field_or_none (f ∷ fs) (suc i) = field_or_none fs i

pub returns : goal.returns
returns c =
    ap (λ (r : Bor (List ℕ)). r.now) c.unwrap_or.ensures ∙ behind c.get.result _ ∙ ap (λ (o : Option (List ℕ)). unwrap_or o []) c.get.ensures.value
    ∙ field_or_none (fields_of c.args.row.now) c.args.place

-- The texts of the indices that are listed, put together one by one.
use Rattle.std.proofs.Common.{◌≡◌, ℕ, ◌+◌, ◌<◌, ◌≤◌, List, ◌++◌, length, get_or, take, take_all, sym, ap, ap₂, ◌∙◌, append_assoc}
use Rattle.std.specs.List.{flat_map}
use Rattle.ob_rows.proofs.Handing.{flat_map_more}
use Rattle.ob_selections.specs.Formulas.{listed, unlisted}
use Rattle.ob_selections.specs.declared.formula.Formula.{Formula}

module _ (f : List ℕ × Formula → List ℕ) where
  -- one index more
  pub one_row : (i : ℕ) (name : List ℕ) (formula : Formula) (text before new : List ℕ) → i < length listed → name ≡ (get_or listed i unlisted).0 → formula ≡ (get_or listed i unlisted).1
      → before ≡ text ++ flat_map f (take i listed) → new ≡ before ++ f (name, formula) → new ≡ text ++ flat_map f (take (i + 1) listed)
  one_row i name formula text before new l one two sofar now =
      now
      ∙ ap₂ (λ (t : List ℕ) (p : List ℕ × Formula). t ++ f p) sofar (ap₂ (λ (n : List ℕ) (g : Formula). let p : List ℕ × Formula = (n, g) in p) one two)
      ∙ append_assoc text (flat_map f (take i listed)) (f (get_or listed i unlisted))
      ∙ ap (λ (t : List ℕ). text ++ t) (sym (flat_map_more f listed i unlisted l))

  -- all of them
  pub all_rows : (i : ℕ) (text now : List ℕ) → length listed ≤ i → now ≡ text ++ flat_map f (take i listed) → now ≡ text ++ flat_map f listed
  all_rows i text now l is = is ∙ ap (λ (rows : List (List ℕ × Formula)). text ++ flat_map f rows) (take_all i listed l)

use Rattle.std.proofs.Common.{◌≡◌, ◌++◌, take}
use Rattle.std.specs.List.{flat_map}
use Rattle.ob_selections.specs.Formulas.{listed}
use Rattle.ob_selections.specs.Lines.{index_fields}
use Rattle.ob_selections.proofs.line.push_indices.Given as goal

-- the indices so far
abbrev pub invariant-loop-place : goal.invariant-loop-place
invariant-loop-place l = l.text.items ≡ l.fn.text.items ++ flat_map (index_fields l.all_days l.figures) (take l.place listed)

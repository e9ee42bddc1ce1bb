use Rattle.std.proofs.Common.{◌≡◌, ◌++◌}
use Rattle.std.specs.List.{filter_map, flat_map, range_with_len}
use Rattle.ob_selections.specs.IndexText.{key_lines}
use Rattle.ob_selections.specs.Listed.{selection_at}
use Rattle.ob_selections.proofs.text.push_all.Given as goal

-- the lines of the numbers so far
abbrev pub invariant-loop-place : goal.invariant-loop-place
invariant-loop-place g l = l.text.items ≡ l.fn.text.items ++ flat_map (key_lines l.book.state) (filter_map (selection_at l.book.state l.by l.longest) (range_with_len 0 l.place))

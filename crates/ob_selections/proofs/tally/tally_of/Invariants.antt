use Rattle.std.proofs.Common.{◌≡◌}
use Rattle.ob_selections.specs.Selections.{is_selected}
use Rattle.ob_selections.specs.Tallies.{customer_of, service_on}
use Rattle.ob_selections.proofs.Tallied.{AreTallied}
use Rattle.ob_selections.proofs.tally.tally_of.Given as goal

-- the intervals so far are counted
abbrev pub invariant-loop-run : goal.invariant-loop-run
invariant-loop-run g l = record {
  tallied : AreTallied (is_selected l.book.state l.selection l.block.section) l.selection.longest (customer_of l.block) l.runs l.run-index l.tally;
  served : l.tally.served ≡ service_on l.book.state l.selection (customer_of l.block);
}

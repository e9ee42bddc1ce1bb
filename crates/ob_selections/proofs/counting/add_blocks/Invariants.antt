use Rattle.std.proofs.Common.{◌+◌, ◌*◌, ◌^◌, take}
use Rattle.std.specs.List.{sum_by}
use Rattle.ob_selections.specs.Sums.{AreAtMost, AreMore}
use Rattle.ob_selections.specs.Tallies.{tally_by_runs}
use Rattle.ob_selections.proofs.Added.{customers_in}
use Rattle.ob_selections.proofs.counting.add_blocks.Given as goal

-- the blocks so far are added
abbrev pub invariant-loop-block : goal.invariant-loop-block
invariant-loop-block g l = record {
  more : AreMore (λ number. sum_by (λ c. c.block.count * number (tally_by_runs l.book.state l.selection l.runs c)) (take l.block-index l.blocks)) l.fn.figures l.figures;
  small : AreAtMost (l.node * 2 ^ 42 + customers_in (take l.block-index l.blocks) * 2 ^ 25) l.figures;
}

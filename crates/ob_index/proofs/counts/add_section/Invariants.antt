use Rattle.std.proofs.Common.{take}
use Rattle.ob_index.proofs.Blocks.{AreAdded}
use Rattle.ob_index.proofs.counts.add_section.Given as goal

abbrev pub invariant-loop-block : goal.invariant-loop-block
invariant-loop-block l = AreAdded l.period l.marks l.which l.runs (take l.block-index l.blocks) l.fn.counts l.counts

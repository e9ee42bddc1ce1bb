use Rattle.std.proofs.Common.{◌≤◌, ◌*◌, ◌^◌, Ok, take}
use Rattle.std.specs.List.{flat_map}
use Rattle.ob_rows.specs.Outages.{rows_of_block}
use Rattle.ob_rows.specs.Sinks.{HandsRows}
use Rattle.ob_rows.proofs.rows.hand_blocks.Given as goal

-- the rows of the blocks so far were handed out
abbrev pub invariant-loop-block : goal.invariant-loop-block
invariant-loop-block g l = record {
  hands : HandsRows g.V.RowSink.takes l.fn.sink l.sink (flat_map (λ c. rows_of_block l.book.state c.section l.feeder l.runs c) (take l.block-index l.blocks)) (Ok l.rows);
  few : l.rows ≤ l.block-index * 2 ^ 25;
}

use Rattle.std.proofs.Common.{◌≤◌, Ok, take}
use Rattle.std.specs.List.{flat_map}
use Rattle.ob_cust.specs.Blocks.{service_of}
use Rattle.ob_rows.specs.Outages.{rows_of_run}
use Rattle.ob_rows.specs.Sinks.{HandsRows}
use Rattle.ob_rows.proofs.rows.hand_block.Given as goal

-- the rows of the intervals so far were handed out
abbrev pub invariant-loop-run : goal.invariant-loop-run
invariant-loop-run g l = record {
  hands : HandsRows g.V.RowSink.takes l.fn.sink l.sink (flat_map (rows_of_run l.book.state l.block.section l.feeder (service_of l.block.block)) (take l.run-index l.runs)) (Ok l.rows);
  few : l.rows ≤ l.run-index;
}

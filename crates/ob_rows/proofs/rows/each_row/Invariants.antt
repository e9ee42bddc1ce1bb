use Rattle.std.proofs.Common.{◌≤◌, ◌*◌, ◌^◌, Ok, length, take}
use Rattle.std.specs.List.{flat_map, range_with_len}
use Rattle.ob_rows.specs.Rows.{rows_of_node}
use Rattle.ob_rows.specs.Sinks.{HandsRows}
use Rattle.ob_rows.proofs.rows.each_row.Given as goal

-- the rows of the nodes so far were handed out
abbrev pub invariant-loop-node : goal.invariant-loop-node
invariant-loop-node g l = record {
  hands : HandsRows g.V.RowSink.takes l.fn.sink l.sink (flat_map (rows_of_node l.book.state) (take l.node (range_with_len 0 (length l.book.state.network.nodes)))) (Ok l.rows);
  few : l.rows ≤ l.node * 2 ^ 42;
}

use Rattle.std.proofs.Common.{None, refl, arith}
use Rattle.ob_sweep.specs.declared.Run.{Run}
use Rattle.ob_cust.specs.Blocks.{service_of}
use Rattle.ob_rows.specs.Outages.{rows_of_run}
use Rattle.ob_rows.proofs.Handing.{err_from, hands_failing, hands_more}
use Rattle.ob_rows.proofs.rows.hand_block.Goals as goal

-- the interval past the end of a list
abbrev absent : Run
absent = record { section = 0; since = 0; until = 0; cutter = None }

pub returns-in_err-rows-clause-hands : goal.returns-in_err-rows-clause-hands
returns-in_err-rows-clause-hands g c =
    let block = c.args.block.now in
    let fault = c.in_err-rows.field-0.0 in
    hands_failing g.V.RowSink.takes (rows_of_run c.args.book.now.state block.section c.args.feeder (service_of block.block)) c.args.runs.now c.loop-run.run-index absent c.loop-run-test.true
    c.args.sink.now c.loop-run.sink c.hand_run.new.sink c.loop-run.rows fault c.from_residual.result (err_from c.from_residual.result fault c.from_residual.ensures.1)
    c.loop-run.invariant.hands c.in_err-rows.ensures.hands

pub loop-run-preserved : goal.loop-run-preserved
loop-run-preserved g c =
    let block = c.args.block.now in
    let before = c.loop-run.invariant.few in
    let one = c.in_ok-rows.ensures.few in
    record {
      hands = hands_more g.V.RowSink.takes (rows_of_run c.args.book.now.state block.section c.args.feeder (service_of block.block)) c.args.runs.now c.loop-run.run-index absent c.loop-run-test.true
          c.args.sink.now c.loop-run.sink c.hand_run.new.sink c.loop-run.rows c.in_ok-rows.field-0 _ c.loop-run.invariant.hands c.in_ok-rows.ensures.hands refl;
      few = omega (arith, before, one);
    }

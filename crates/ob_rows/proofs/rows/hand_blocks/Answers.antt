use Rattle.std.proofs.Common.{None, refl, arith}
use Rattle.ob_cust.specs.declared.SectionBlock.{SectionBlock}
use Rattle.ob_rows.specs.Outages.{rows_of_block}
use Rattle.ob_rows.proofs.Handing.{err_from, hands_failing, hands_more}
use Rattle.ob_rows.proofs.rows.hand_blocks.Goals as goal

-- the block past the end of a list
abbrev absent : SectionBlock
absent = record { section = 0; block = record { since = 0; until = None; count = 0 } }

pub hand_block-requires-clause-outages : goal.hand_block-requires-clause-outages
hand_block-requires-clause-outages g c = c.requires.outages c.loop-block.block-index absent c.loop-block-test.true

pub returns-in_err-rows-clause-hands : goal.returns-in_err-rows-clause-hands
returns-in_err-rows-clause-hands g c =
    let fault = c.in_err-rows.field-0.0 in
    hands_failing g.V.RowSink.takes (λ (b : SectionBlock). rows_of_block c.args.book.now.state b.section c.args.feeder c.args.runs.now b) c.args.blocks.now c.loop-block.block-index absent c.loop-block-test.true
    c.args.sink.now c.loop-block.sink c.hand_block.new.sink c.loop-block.rows fault c.from_residual.result (err_from c.from_residual.result fault c.from_residual.ensures.1)
    c.loop-block.invariant.hands c.in_err-rows.ensures.hands

pub loop-block-preserved : goal.loop-block-preserved
loop-block-preserved g c =
    let before = c.loop-block.invariant.few in
    let some = c.in_ok-rows.ensures.few in
    let runs = c.requires.few_runs in
    record {
      hands = hands_more g.V.RowSink.takes (λ (b : SectionBlock). rows_of_block c.args.book.now.state b.section c.args.feeder c.args.runs.now b) c.args.blocks.now c.loop-block.block-index absent c.loop-block-test.true
          c.args.sink.now c.loop-block.sink c.hand_block.new.sink c.loop-block.rows c.in_ok-rows.field-0 _ c.loop-block.invariant.hands c.in_ok-rows.ensures.hands refl;
      few = omega (arith, before, some, runs);
    }

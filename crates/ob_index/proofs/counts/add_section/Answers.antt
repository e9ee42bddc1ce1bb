use Rattle.std.proofs.Common.{None, get_or, ◌+◌, ◌∙◌, arith}
use Rattle.ob_cust.specs.declared.SectionBlock.{SectionBlock}
use Rattle.ob_index.proofs.Blocks.{added_more, next_few, next_small, tally_of_block, within_block}
use Rattle.ob_index.proofs.counts.add_section.Goals as goal

-- the block past the end of a list
abbrev absent : SectionBlock
absent = record { section = 0; block = record { since = 0; until = None; count = 0 } }

pub add-requires-clause-sustained : goal.add-requires-clause-sustained
add-requires-clause-sustained c =
    let few = within_block c.args.period.now c.customer_of.result (get_or c.args.blocks.now c.loop-block.block-index absent) c.tally_of-tally.result.sustained c.customer_of.ensures.since c.customer_of.ensures.until c.tally_of-tally.ensures.sustained in
    let room = c.requires.ci in
    let next =
    next_small c.args.period.now c.args.marks.now c.args.which c.args.runs.now c.args.blocks.now c.loop-block.block-index absent c.loop-block-test.true c.requires.served
    _ _ _ few c.loop-block.invariant.few_sustained room in
    rw c.from.ensures (omega (arith, next))

pub add-requires-clause-seconds : goal.add-requires-clause-seconds
add-requires-clause-seconds c =
    let few = within_block c.args.period.now c.customer_of.result (get_or c.args.blocks.now c.loop-block.block-index absent) c.tally_of-tally.result.seconds c.customer_of.ensures.since c.customer_of.ensures.until c.tally_of-tally.ensures.seconds in
    let room = c.requires.csi in
    let next =
    next_small c.args.period.now c.args.marks.now c.args.which c.args.runs.now c.args.blocks.now c.loop-block.block-index absent c.loop-block-test.true c.requires.served
    _ _ _ few c.loop-block.invariant.few_seconds room in
    rw c.from.ensures (omega (arith, next))

pub add-requires-clause-momentary : goal.add-requires-clause-momentary
add-requires-clause-momentary c =
    let few = within_block c.args.period.now c.customer_of.result (get_or c.args.blocks.now c.loop-block.block-index absent) c.tally_of-tally.result.momentary c.customer_of.ensures.since c.customer_of.ensures.until c.tally_of-tally.ensures.momentary in
    let room = c.requires.mi in
    let next =
    next_small c.args.period.now c.args.marks.now c.args.which c.args.runs.now c.args.blocks.now c.loop-block.block-index absent c.loop-block-test.true c.requires.served
    _ _ _ few c.loop-block.invariant.few_momentary room in
    rw c.from.ensures (omega (arith, next))

pub add-requires-clause-customers : goal.add-requires-clause-customers
add-requires-clause-customers c =
    let room = c.requires.cn in
    let next =
    next_few c.args.period.now c.args.marks.now c.args.which c.args.runs.now c.args.blocks.now c.loop-block.block-index absent c.loop-block-test.true c.requires.few
    1 _ _ c.loop-block.invariant.customers room in
    rw c.from.ensures (omega (arith, next))

pub add-requires-clause-each : goal.add-requires-clause-each
add-requires-clause-each c = λ k small.
    let next =
    next_few c.args.period.now c.args.marks.now c.args.which c.args.runs.now c.args.blocks.now c.loop-block.block-index absent c.loop-block-test.true c.requires.few
    (1 + k) _ _ (c.loop-block.invariant.each k small) (c.requires.cn_n k small) in
    rw c.from.ensures (omega (arith, next))

pub loop-block-preserved : goal.loop-block-preserved
loop-block-preserved c =
    let block = get_or c.args.blocks.now c.loop-block.block-index absent in
    let is = c.tally_of-tally.ensures.tally ∙ tally_of_block c.args.period.now c.args.marks.now c.args.which c.args.runs.now c.customer_of.result block c.customer_of.ensures.since c.customer_of.ensures.until in
    added_more c.args.period.now c.args.marks.now c.args.which c.args.runs.now c.args.blocks.now c.loop-block.block-index absent c.loop-block-test.true
    c.args.counts.now c.loop-block.counts c.loop-block.invariant c.tally_of-tally.result is c.add.new.counts
    (within_block c.args.period.now c.customer_of.result block c.tally_of-tally.result.sustained c.customer_of.ensures.since c.customer_of.ensures.until c.tally_of-tally.ensures.sustained)
    (within_block c.args.period.now c.customer_of.result block c.tally_of-tally.result.seconds c.customer_of.ensures.since c.customer_of.ensures.until c.tally_of-tally.ensures.seconds)
    (within_block c.args.period.now c.customer_of.result block c.tally_of-tally.result.momentary c.customer_of.ensures.since c.customer_of.ensures.until c.tally_of-tally.ensures.momentary)
    (rw c.from.ensures at c.add.ensures.sustained) (rw c.from.ensures at c.add.ensures.seconds) (rw c.from.ensures at c.add.ensures.momentary)
    (rw c.from.ensures at c.add.ensures.customers) c.add.ensures.places (λ j small. rw c.from.ensures at c.add.ensures.each j small)

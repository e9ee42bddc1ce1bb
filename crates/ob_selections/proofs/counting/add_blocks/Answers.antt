use Rattle.std.proofs.Common.{◌≡◌, ◌+◌, ◌*◌, ◌^◌, None, List, get_or, take, take_all, ap, refl, sym, ◌∙◌, arith}
use Rattle.std.specs.List.{sum_by}
use Rattle.std.proofs.lemmas.List.Sums.{sum_by_more}
use Rattle.ob_cust.specs.declared.SectionBlock.{SectionBlock}
use Rattle.ob_state.specs.State.{BookState}
use Rattle.ob_selections.specs.Sums.{AreMore}
use Rattle.ob_selections.specs.Tallies.{tally_by_runs}
use Rattle.ob_selections.specs.declared.figures.Tally.{Tally}
use Rattle.ob_selections.proofs.Added.{at_most_more, bound_small, last_bound, more_both, more_none, more_same, next_at_most, next_bound, times}
use Rattle.ob_selections.proofs.counting.add_blocks.Goals as goal

-- the block past the end of a list
abbrev absent : SectionBlock
absent = record { section = 0; block = record { since = 0; until = None; count = 0 } }

pub loop-block-init : goal.loop-block-init
loop-block-init g c = record {
  more = more_none _ c.args.figures.now refl refl refl refl (λ j. refl);
  small = at_most_more (c.args.node * 2 ^ 42) _ c.args.figures.now (omega arith) c.requires.small;
}

pub add-requires-clause-sustained : goal.add-requires-clause-sustained
add-requires-clause-sustained g c =
    let blocks = c.args.blocks.now in
    let i = c.loop-block.block-index in
    let next = next_bound c.args.node blocks i absent c.loop-block-test.true _ c.tally_of-tally.result.sustained c.loop-block.invariant.small.sustained c.tally_of-tally.ensures.small.sustained in
    let small = bound_small c.args.node blocks i absent c.loop-block-test.true c.requires.node c.requires.few in
    rw c.from.ensures (omega (arith, next, small))

pub add-requires-clause-seconds : goal.add-requires-clause-seconds
add-requires-clause-seconds g c =
    let blocks = c.args.blocks.now in
    let i = c.loop-block.block-index in
    let next = next_bound c.args.node blocks i absent c.loop-block-test.true _ c.tally_of-tally.result.seconds c.loop-block.invariant.small.seconds c.tally_of-tally.ensures.small.seconds in
    let small = bound_small c.args.node blocks i absent c.loop-block-test.true c.requires.node c.requires.few in
    rw c.from.ensures (omega (arith, next, small))

pub add-requires-clause-momentary : goal.add-requires-clause-momentary
add-requires-clause-momentary g c =
    let blocks = c.args.blocks.now in
    let i = c.loop-block.block-index in
    let next = next_bound c.args.node blocks i absent c.loop-block-test.true _ c.tally_of-tally.result.momentary c.loop-block.invariant.small.momentary c.tally_of-tally.ensures.small.momentary in
    let small = bound_small c.args.node blocks i absent c.loop-block-test.true c.requires.node c.requires.few in
    rw c.from.ensures (omega (arith, next, small))

pub add-requires-clause-served : goal.add-requires-clause-served
add-requires-clause-served g c =
    let blocks = c.args.blocks.now in
    let i = c.loop-block.block-index in
    let next = next_bound c.args.node blocks i absent c.loop-block-test.true _ c.tally_of-tally.result.served c.loop-block.invariant.small.served c.tally_of-tally.ensures.small.served in
    let small = bound_small c.args.node blocks i absent c.loop-block-test.true c.requires.node c.requires.few in
    rw c.from.ensures (omega (arith, next, small))

pub add-requires-clause-customers : goal.add-requires-clause-customers
add-requires-clause-customers g c =
    let blocks = c.args.blocks.now in
    let i = c.loop-block.block-index in
    let next = next_bound c.args.node blocks i absent c.loop-block-test.true _ 1 c.loop-block.invariant.small.customers (omega arith) in
    let small = bound_small c.args.node blocks i absent c.loop-block-test.true c.requires.node c.requires.few in
    rw c.from.ensures (omega (arith, next, small))

pub add-requires-clause-each : goal.add-requires-clause-each
add-requires-clause-each g c = λ k low.
    let blocks = c.args.blocks.now in
    let i = c.loop-block.block-index in
    let next = next_bound c.args.node blocks i absent c.loop-block-test.true _ 1 (c.loop-block.invariant.small.each k low) (omega arith) in
    let small = bound_small c.args.node blocks i absent c.loop-block-test.true c.requires.node c.requires.few in
    rw c.from.ensures (omega (arith, next, small))

pub loop-block-preserved : goal.loop-block-preserved
loop-block-preserved g c =
    let b : BookState = c.args.book.now.state in
    let x = c.args.selection.now in
    let blocks = c.args.blocks.now in
    let i = c.loop-block.block-index in
    let block = get_or blocks i absent in
    let t = c.tally_of-tally.result in
    let added : AreMore (times block.block.count t) c.loop-block.figures c.add.new.figures = record {
      sustained = rw c.from.ensures at c.add.ensures.sustained;
      seconds = rw c.from.ensures at c.add.ensures.seconds;
      momentary = rw c.from.ensures at c.add.ensures.momentary;
      customers = rw c.from.ensures at c.add.ensures.customers;
      places = c.add.ensures.places;
      each = λ j small. rw c.from.ensures at c.add.ensures.each j small;
      served = rw c.from.ensures at c.add.ensures.served;
      length = c.add.ensures.length;
    } in
    record {
      more = more_both _ (times block.block.count t) _ c.args.figures.now c.loop-block.figures c.add.new.figures
          (λ number. sum_by_more (λ (d : SectionBlock). d.block.count * number (tally_by_runs b x c.args.runs.now d)) blocks i absent c.loop-block-test.true
          ∙ ap (λ (u : Tally). sum_by (λ (d : SectionBlock). d.block.count * number (tally_by_runs b x c.args.runs.now d)) (take i blocks) + block.block.count * number u) (sym c.tally_of-tally.ensures.tally))
          c.loop-block.invariant.more added;
      small = next_at_most c.args.node blocks i absent c.loop-block-test.true c.loop-block.figures c.add.new.figures t c.loop-block.invariant.small c.tally_of-tally.ensures.small added;
    }

pub returns-clause-more : goal.returns-clause-more
returns-clause-more g c =
    let b : BookState = c.args.book.now.state in
    let x = c.args.selection.now in
    let blocks = c.args.blocks.now in
    let all : take c.loop-block.block-index blocks ≡ blocks = take_all c.loop-block.block-index blocks (omega (arith, c.loop-block-test.false)) in
    more_same _ _ c.args.figures.now c.loop-block.figures
    (λ number. ap (λ (bs : List SectionBlock). sum_by (λ (d : SectionBlock). d.block.count * number (tally_by_runs b x c.args.runs.now d)) bs) all) c.loop-block.invariant.more

pub returns-clause-small : goal.returns-clause-small
returns-clause-small g c =
    at_most_more _ ((c.args.node + 1) * 2 ^ 42) c.loop-block.figures (last_bound c.args.node c.args.blocks.now c.loop-block.block-index c.requires.few) c.loop-block.invariant.small

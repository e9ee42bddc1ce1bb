use Rattle.std.proofs.Common.{pos, rules}
use Rattle.std.proofs.lemmas.List.{take_all}
use Rattle.std.proofs.lemmas.List.Elements.{All-more}
use Rattle.ob_post.specs.declared.Dim.TheVariants.{Cause}
use Rattle.ob_post.specs.declared.Moved.{Moved}
use Rattle.ob_index_tests.specs.Small.{IsSmall}
use Rattle.ob_index_tests.proofs.postings.are_small.Goals as goal

pub loop-row-preserved : goal.loop-row-preserved
loop-row-preserved c =
    let absent : Moved = record { dim = Cause; key = 0; delta = pos 0 } in
    All-more IsSmall c.args.moved.now c.loop-row.row-index absent c.loop-row-test.true c.loop-row.invariant (search rules)

pub returns : goal.returns
returns c = λ _. rw (take_all c.loop-row.row-index c.args.moved.now c.loop-row-test.false) at c.loop-row.invariant

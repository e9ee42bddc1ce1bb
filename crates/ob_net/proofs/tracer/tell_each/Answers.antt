use Rattle.std.proofs.Common.{◌<◌, List, Bool, length, arith, ◌∙◌}
use Rattle.ob_net.proofs.Tracing.{told_all, told_more}
use Rattle.ob_net.proofs.tracer.tell_each.Goals as goal

pub loop-place-preserved : goal.loop-place-preserved
loop-place-preserved c =
    let before = c.loop-place.invariant in
    let place = c.loop-place.place in
    let told : List Bool = c.loop-place.supplied in
    let l : place < length told = omega (arith, c.loop-place-test.true, c.loop-place.auto.supplied, c.requires.each) in
    record {
      near_size = c.tell.ensures.near_size ∙ before.near_size;
      live_size = c.tell.ensures.live_size ∙ before.live_size;
      dead_size = c.tell.ensures.dead_size ∙ before.dead_size;
      sets = λ test supplied. (c.tell.ensures.told test supplied (before.sets test supplied)).1;
      told = λ test supplied.
          told_more test c.args.nodes.now told place c.tell.result l (c.tell.ensures.told test supplied (before.sets test supplied)).0 (before.told test supplied);
    }

pub returns-clause-supplied : goal.returns-clause-supplied
returns-clause-supplied c = λ test supplied.
    told_all test c.args.nodes.now c.loop-place.supplied (c.loop-place.auto.supplied ∙ c.requires.each)
    (λ i l. c.loop-place.invariant.told test supplied i (omega (arith, l, c.loop-place-test.false)))

use Rattle.std.proofs.Common.{refl, rules}
use Rattle.ob_base.specs.Life.{whole_life}
use Rattle.bench_calls.specs.Networks.{position_of}
use Rattle.bench_calls.proofs.Joined.{one_more, one_more_mapped}
use Rattle.bench_calls.proofs.network.network.Goals as goal

pub loop-number-preserved : goal.loop-number-preserved
loop-number-preserved c = record {
  node_count = search rules;
  sections = search rules;
  first_ends = one_more c.args.from.now c.loop-number.number _ _ _ c.in_ok-add_device.ensures.from c.loop-number.invariant.first_ends (search rules) (search rules);
  second_ends = one_more c.args.to.now c.loop-number.number _ _ _ c.in_ok-add_device.ensures.to c.loop-number.invariant.second_ends (search rules) (search rules);
  normals = one_more_mapped position_of c.args.closed.now c.loop-number.number _ _ _ c.in_ok-add_device.ensures.normal c.loop-number.invariant.normals (search rules) c.position-normal.ensures;
  lives = one_more_mapped (λ _. whole_life) c.args.closed.now c.loop-number.number _ _ _ c.in_ok-add_device.ensures.lives c.loop-number.invariant.lives (search rules) refl;
}

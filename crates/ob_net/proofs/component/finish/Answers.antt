use Rattle.std.proofs.Common.{ℕ, ◌<◌, List, ap, length, arith, ◌∙◌}
use Rattle.ob_net.proofs.Components.{component_of, explored_less, explored_more}
use Rattle.ob_net.proofs.component.finish.Goals as goal

pub loop-next-preserved : goal.loop-next-preserved
loop-next-preserved c =
    let next = c.loop-next.next in
    let old : List ℕ = c.loop-next.found.nodes in
    let before = c.loop-next.invariant in
    let l : next < length old = omega (arith, c.loop-next-test.true, c.len.ensures.count) in
    record {
      size = c.follow.ensures.size ∙ before.size;
      explored = λ start h.
          explored_more c.args.joints.now.ends c.args.positions.now start old c.follow.new.found.nodes next l c.follow.ensures.longer
          (rw c.nodes.ensures.nodes at c.follow.ensures.followed) (rw c.nodes.ensures.nodes at c.follow.ensures.same) (rw c.nodes.ensures.nodes at c.follow.ensures.within) (before.explored start h);
      kept = λ none. let same = ap length (before.kept none) in absurd (omega (arith, same, none, before.on, l));
      on = omega (arith, before.on);
    }

pub returns-else-not-has-clause-same : goal.returns-else-not-has-clause-same
returns-else-not-has-clause-same c = λ start h test alike. (c.loop-next.invariant.explored start h).same test alike

pub returns-after-loop-next-clause-same : goal.returns-after-loop-next-clause-same
returns-after-loop-next-clause-same c = λ start h test alike. (c.loop-next.invariant.explored start h).same test alike

pub returns-after-loop-next-clause-whole : goal.returns-after-loop-next-clause-whole
returns-after-loop-next-clause-whole c = λ start h none.
    component_of c.args.joints.now.ends c.args.positions.now start c.loop-next.found.nodes c.loop-next.next
    (omega (arith, c.loop-next-test.false, c.len.ensures.count)) (c.loop-next.invariant.explored start h)

pub returns-else-not-has-clause-explored : goal.returns-else-not-has-clause-explored
returns-else-not-has-clause-explored c = λ start h.
    explored_less c.args.joints.now.ends c.args.positions.now start c.loop-next.found.nodes c.args.from c.loop-next.next c.loop-next.invariant.on (c.loop-next.invariant.explored start h)

pub returns-after-loop-next-clause-explored : goal.returns-after-loop-next-clause-explored
returns-after-loop-next-clause-explored c = λ start h.
    explored_less c.args.joints.now.ends c.args.positions.now start c.loop-next.found.nodes c.args.from c.loop-next.next c.loop-next.invariant.on (c.loop-next.invariant.explored start h)

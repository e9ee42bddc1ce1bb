use Rattle.std.proofs.Common.{ℕ, ◌<◌, List, length, arith, ◌∙◌}
use Rattle.ob_net.proofs.Components.{explored_more}
use Rattle.ob_net.proofs.component.race.Goals as goal

pub loop-next-preserved : goal.loop-next-preserved
loop-next-preserved c =
    let next = c.loop-next.next in
    let one : List ℕ = c.loop-next.one.nodes in
    let other : List ℕ = c.loop-next.other.nodes in
    let before = c.loop-next.invariant in
    let l : next < length one = omega (arith, c.loop-next-test.true, c.len.ensures.count) in
    let m : next < length other = omega (arith, c.if-next-len.true, c.len-in-loop-next.ensures.count) in
    record {
      size = c.follow.ensures.size ∙ before.size;
      other_size = c.follow-in-loop-next.ensures.size ∙ before.other_size;
      explored = λ start h.
          explored_more c.args.joints.now.ends c.args.positions.now start one c.follow.new.found.nodes next l c.follow.ensures.longer
          (rw c.nodes.ensures.nodes at c.follow.ensures.followed) (rw c.nodes.ensures.nodes at c.follow.ensures.same) (rw c.nodes.ensures.nodes at c.follow.ensures.within) (before.explored start h);
      other_explored = λ start h.
          explored_more c.args.joints.now.ends c.args.positions.now start other c.follow-in-loop-next.new.found.nodes next m c.follow-in-loop-next.ensures.longer
          (rw c.nodes-in-loop-next.ensures.nodes at c.follow-in-loop-next.ensures.followed) (rw c.nodes-in-loop-next.ensures.nodes at c.follow-in-loop-next.ensures.same)
          (rw c.nodes-in-loop-next.ensures.nodes at c.follow-in-loop-next.ensures.within) (before.other_explored start h);
    }

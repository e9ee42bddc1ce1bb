use Rattle.std.proofs.Common.{◌≡◌, ℕ, ◌+◌, ◌-◌, List, ap, subst, sym, ◌∙◌, arith}
use Rattle.ob_base.specs.declared.Pos.{Pos}
use Rattle.ob_net.specs.Joints.{ends_at, other_end}
use Rattle.ob_net.specs.Nodes.{with_one}
use Rattle.ob_net.proofs.Chains.{last_at_most}
use Rattle.ob_net.proofs.Components.{AreFound, found_closed, found_first, found_open}
use Rattle.ob_net.proofs.Forests.{was_closed, was_open}
use Rattle.ob_net.proofs.component.follow.Goals.{then-eq, else-eq}
use Rattle.ob_net.proofs.component.follow.Goals as goal

pub loop-joint-init : goal.loop-joint-init
loop-joint-init c = record {
  size = c.requires.size;
  found = rw c.last-joint.ensures (found_first c.args.joints.now.ends c.args.positions.now c.args.node c.args.found.now.nodes);
}

pub loop-joint-smaller : goal.loop-joint-smaller
loop-joint-smaller c =
    let least = last_at_most c.args.joints.now.ends c.args.node (c.loop-joint.joint - 1) in
    let some = c.loop-joint-test.true in
    omega (arith, c.before-joint.ensures, least, some)

pub loop-joint-preserved : goal.loop-joint-preserved
loop-joint-preserved c =
    let ends : List (ℕ × ℕ) = c.args.joints.now.ends in
    let ps : List Pos = c.args.positions.now in
    let node = c.args.node in
    let old : List ℕ = c.args.found.now.nodes in
    let now : List ℕ = c.loop-joint.found.nodes in
    let k = c.loop-joint.joint - 1 in
    let some = c.loop-joint-test.true in
    let next : c.loop-joint.joint ≡ k + 1 = omega (arith, some) in
    let before : AreFound ends ps node old (k + 1) now = subst (λ (j : ℕ). AreFound ends ps node old j now) next c.loop-joint.invariant.found in
    elim c.if-eq.branch [
      | then-eq w ↦
          let new : w.insert.new.self.nodes ≡ with_one now (other_end node (ends_at ends k)) = w.insert.ensures.nodes ∙ ap (with_one now) w.other_end.ensures.other in
          rw w.found-is (record {
            size = w.insert.ensures.size ∙ c.loop-joint.invariant.size;
            found = rw (c.before-joint.ensures, new) (found_closed ends ps node old k now (was_closed _ (sym c.eq.ensures ∙ w.if-eq.true)) before);
          })
      | else-eq w ↦
          rw w.found-is (record {
            size = c.loop-joint.invariant.size;
            found = rw c.before-joint.ensures (found_open ends ps node old k now (was_open _ (sym c.eq.ensures ∙ w.if-eq.false)) before);
          })
    ]

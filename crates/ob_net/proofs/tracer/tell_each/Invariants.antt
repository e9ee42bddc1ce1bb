use Rattle.std.proofs.Common.{◌≡◌, ℕ, Bool}
use Rattle.ob_net.specs.Joints.{IsComponent}
use Rattle.ob_net.specs.Traces.{AreTold}
use Rattle.ob_net.proofs.Tracing.{AreToldFirst}
use Rattle.ob_net.proofs.tracer.tell_each.Given as goal

abbrev pub invariant-loop-place : goal.invariant-loop-place
invariant-loop-place l = record {
  near_size : l.near.size ≡ l.joints.nodes;
  live_size : l.live.size ≡ l.joints.nodes;
  dead_size : l.dead.size ≡ l.joints.nodes;
  sets : (test : ℕ → Bool) → IsComponent l.joints.ends l.positions 0 test → AreTold test l.live.nodes l.dead.nodes;
  told : (test : ℕ → Bool) → IsComponent l.joints.ends l.positions 0 test → AreToldFirst test l.nodes l.supplied l.place;
}

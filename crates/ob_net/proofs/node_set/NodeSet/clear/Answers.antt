use Rattle.std.proofs.Common.{◌≡◌, ◌≤◌, List, Bool, length, ap, ◌∙◌, arith}
use Rattle.std.specs.Vec.{vec_capacity}
use Rattle.ob_net.proofs.Nodes.{none_marked, unmarked, written_back}
use Rattle.ob_net.proofs.node_set.NodeSet.clear.Goals as goal

pub invariant_of-self : goal.invariant_of-self
invariant_of-self c =
    let old : List Bool = c.self.inside.marks.items in
    let new : List Bool = c.set_flags.new.flags in
    let lent : c.deref_mut.result.now ≡ old = c.deref_mut.ensures.value in
    let long : length new ≡ length old = c.set_flags.auto.flags ∙ ap length lent in
    let room : length new ≤ vec_capacity c.clear.new.self = let r = c.self.invariant.room in omega (arith, r, long, c.clear.ensures.capacity) in
    rw (written_back new old c.self.inside.marks.len c.self.inside.marks.ok.0 long, c.clear.ensures.items)
    (none_marked new (vec_capacity c.clear.new.self) (unmarked old new c.self.inside.nodes.items (vec_capacity c.self.inside.nodes) c.self.invariant (rw (c.deref.ensures.value, lent) at c.set_flags.ensures)) room)

use Rattle.std.proofs.Common.{ℕ, List, sym, ◌∙◌}
use Rattle.ob_base.specs.declared.Pos.{Pos}
use Rattle.ob_net.proofs.Switched.{alone_explored}
use Rattle.ob_net.proofs.Tracing.{more_dead, more_live, with_grid, without_grid}
use Rattle.ob_net.proofs.tracer.tell.Goals as goal

pub returns-then-is_supplied-clause-told : goal.returns-then-is_supplied-clause-told
returns-then-is_supplied-clause-told c = λ test supplied told.
    let ends : List (ℕ × ℕ) = c.args.joints.now.ends in
    let ps : List Pos = c.args.positions.now in
    let node = c.args.node in
    let found : List ℕ = c.finish.new.found.nodes in
    let start = alone_explored ends ps node _ _ c.insert.ensures.nodes c.clear.ensures.nodes in
    let same = c.finish.ensures.same node start test supplied.alike in
    let is = with_grid ends ps node found test supplied same (sym c.has-is_supplied.ensures ∙ c.if-is_supplied.true) in (
      c.if-is_supplied.true ∙ sym is,
      more_live ends ps node found test supplied same c.args.live.now.nodes c.args.dead.now.nodes c.insert_all.new.self.nodes is (rw c.nodes.ensures.nodes at c.insert_all.ensures.nodes) told,
    )

pub returns-else-is_supplied-clause-told : goal.returns-else-is_supplied-clause-told
returns-else-is_supplied-clause-told c = λ test supplied told.
    let ends : List (ℕ × ℕ) = c.args.joints.now.ends in
    let ps : List Pos = c.args.positions.now in
    let node = c.args.node in
    let found : List ℕ = c.finish.new.found.nodes in
    let start = alone_explored ends ps node _ _ c.insert.ensures.nodes c.clear.ensures.nodes in
    let same = c.finish.ensures.same node start test supplied.alike in
    let none = sym c.has-is_supplied.ensures ∙ c.if-is_supplied.false in
    let isnt = without_grid ends ps node found test supplied same none (c.finish.ensures.whole node start none) in (
      c.if-is_supplied.false ∙ sym isnt,
      more_dead ends ps node found test supplied same c.args.live.now.nodes c.args.dead.now.nodes c.insert_all-else-is_supplied.new.self.nodes isnt
          (rw c.nodes-else-is_supplied.ensures.nodes at c.insert_all-else-is_supplied.ensures.nodes) told,
    )

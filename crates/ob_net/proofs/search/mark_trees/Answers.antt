use Rattle.std.proofs.Common.{arith}
use Rattle.ob_net.proofs.Marked.{keep_unmarked, mark_first, mark_second, root_marked, unmarked}
use Rattle.ob_net.proofs.search.mark_trees.Goals as goal

pub returns-clause-a : goal.returns-clause-a
returns-clause-a c = λ ne.
    unmarked _ _ ne
    (root_marked _ _ _ _ _ _ (λ test t. (c.root_of-a.ensures.trees test).1 ((c.root_of-b.ensures.trees test).1 t))
    c.root_of-a.ensures.same_tree c.reach_trees.ensures.treewise (c.root_of-b.ensures.roots _ c.root_of-a.ensures.root) c.reach_trees.ensures.roots
    (mark_first c.args.marks.now c.root_of-a.result c.root_of-b.result (omega (arith, c.root_of-a.ensures.is_node, c.requires.long))))

pub returns-clause-b : goal.returns-clause-b
returns-clause-b c = λ ne.
    let same = c.root_of-a.auto.parents in
    unmarked _ _ ne
    (root_marked _ _ _ _ _ _ (λ test t. (c.root_of-b.ensures.trees test).1 t)
    c.root_of-b.ensures.same_tree c.reach_trees.ensures.treewise c.root_of-b.ensures.root c.reach_trees.ensures.roots
    (mark_second c.args.marks.now c.root_of-a.result c.root_of-b.result (omega (arith, c.root_of-b.ensures.is_node, same, c.requires.long))))

pub returns-clause-treewise : goal.returns-clause-treewise
returns-clause-treewise c = λ devices positions count each.
    keep_unmarked _ devices positions count
    (each _ ((c.root_of-a.ensures.trees _).1 ((c.root_of-b.ensures.trees _).1 c.reach_trees.ensures.treewise)))

use Rattle.ob_net.proofs.search.join_ends.Goals as goal

pub returns-then-device-ne-GRID-2-clause-trees : goal.returns-then-device-ne-GRID-2-clause-trees
returns-then-device-ne-GRID-2-clause-trees c = λ test t. ((c.join.ensures.trees test).0 t).0

pub returns-then-device-ne-GRID-2-clause-keeps : goal.returns-then-device-ne-GRID-2-clause-keeps
returns-then-device-ne-GRID-2-clause-keeps c = λ test t p a b. ((c.join.ensures.trees test).0 t).1

use Rattle.std.proofs.Common.{◌≡◌, ◌∙◌, sym, ap, arith, ◌+◌, ◌<◌, ◌++◌, List, [], ◌∷◌, length, length-append, map, slice_get, subst}
use Rattle.ob_net.specs.Network.{Network}
use Rattle.ob_net.specs.declared.net.Node.{Node as ANode}
use Rattle.ob_state.specs.Resolved.{CanTake, IsNewNode}
use Rattle.ob_book.specs.Intervals.{nodes_then}
use Rattle.ob_book.proofs.Forecasting.{old_name}
use Rattle.ob_book.proofs.forecast.name_after.Goals as goal

pub returns-else-number-node : goal.returns-else-number-node
returns-else-number-node c =
    let b = c.args.state.now.state in
    let v = c.args.node in
    let added = c.in-Node.added in
    let nodes : nodes_then b.network c.args.resolved.now ≡ b.network.nodes ++ added ∷ [] = ap (nodes_then b.network) c.in-Node.is in
    let new : IsNewNode b c.in-Node.number added = subst (CanTake b) c.in-Node.is c.requires.takes in
    let count : length (b.network.nodes ++ added ∷ []) ≡ length b.network.nodes + 1 = length-append b.network.nodes (added ∷ []) in
    let below : v < length (b.network.nodes ++ added ∷ []) = subst (λ (ns : List ANode). v < length ns) nodes c.requires.node in
    let last = new.number in
    let within : v < length b.network.nodes = omega (arith, count, below, last, c.if-number-node.false) in
    sym c.node_name.ensures ∙ ap (λ (n : Network). slice_get (map (λ m. m.name) n.nodes) v) c.net.ensures.network
    ∙ old_name b.network.nodes added v within ∙ ap (λ (ns : List ANode). slice_get (map (λ m. m.name) ns) v) (sym nodes)

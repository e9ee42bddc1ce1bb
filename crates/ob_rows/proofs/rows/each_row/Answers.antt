use Rattle.std.proofs.Common.{◌≡◌, ℕ, length, Ok, Err, get_or, zero-add, refl, sym, ap, subst, ◌∙◌, arith}
use Rattle.std.specs.List.{range_with_len}
use Rattle.std.proofs.lemmas.List.FromFn.{length-range_with_len, get_or-range_with_len}
use Rattle.ob_net.specs.Network.{Network}
use Rattle.ob_state.specs.State.{BookState}
use Rattle.ob_rows.specs.Rows.{rows_of_node}
use Rattle.ob_rows.specs.Sinks.{HandsRows}
use Rattle.ob_rows.proofs.Handing.{err_from, hands_all, hands_failing, hands_more}
use Rattle.ob_rows.proofs.rows.each_row.Goals as goal

pub returns-in_err-rows : goal.returns-in_err-rows
returns-in_err-rows g c =
    let state : BookState = c.args.book.now.state in
    let nodes = length state.network.nodes in
    let node = c.loop-node.node in
    let fault = c.in_err-rows.field-0.0 in
    let count : c.nodes-node-end.result ≡ nodes = c.nodes-node-end.ensures.count ∙ ap (λ (net : Network). length net.nodes) c.net.ensures.network in
    let test = c.loop-node-test.true in
    let here : get_or (range_with_len 0 nodes) node 0 ≡ node = get_or-range_with_len 0 nodes node 0 (omega (arith, test, count)) ∙ zero-add node in
    record {
      hands = hands_failing g.V.RowSink.takes (rows_of_node state) (range_with_len 0 nodes) node 0 (omega (arith, test, count, length-range_with_len 0 nodes))
          c.args.sink.now c.loop-node.sink c.hand_node.new.sink c.loop-node.rows fault c.from_residual.result (err_from c.from_residual.result fault c.from_residual.ensures.1)
          c.loop-node.invariant.hands (subst (λ (v : ℕ). HandsRows g.V.RowSink.takes c.loop-node.sink c.hand_node.new.sink (rows_of_node state v) (Err fault)) (sym here) c.in_err-rows.ensures.hands);
    }

pub loop-node-preserved : goal.loop-node-preserved
loop-node-preserved g c =
    let state : BookState = c.args.book.now.state in
    let nodes = length state.network.nodes in
    let node = c.loop-node.node in
    let count : c.nodes-node-end.result ≡ nodes = c.nodes-node-end.ensures.count ∙ ap (λ (net : Network). length net.nodes) c.net.ensures.network in
    let test = c.loop-node-test.true in
    let here : get_or (range_with_len 0 nodes) node 0 ≡ node = get_or-range_with_len 0 nodes node 0 (omega (arith, test, count)) ∙ zero-add node in
    let before = c.loop-node.invariant.few in
    let some = c.in_ok-rows.ensures.few in
    record {
      hands = hands_more g.V.RowSink.takes (rows_of_node state) (range_with_len 0 nodes) node 0 (omega (arith, test, count, length-range_with_len 0 nodes))
          c.args.sink.now c.loop-node.sink c.hand_node.new.sink c.loop-node.rows c.in_ok-rows.field-0 _ c.loop-node.invariant.hands
          (subst (λ (v : ℕ). HandsRows g.V.RowSink.takes c.loop-node.sink c.hand_node.new.sink (rows_of_node state v) (Ok c.in_ok-rows.field-0)) (sym here) c.in_ok-rows.ensures.hands) refl;
      few = omega (arith, before, some);
    }

pub returns : goal.returns
returns g c =
    let state : BookState = c.args.book.now.state in
    let nodes = length state.network.nodes in
    let count : c.nodes-node-end.result ≡ nodes = c.nodes-node-end.ensures.count ∙ ap (λ (net : Network). length net.nodes) c.net.ensures.network in
    let test = c.loop-node-test.false in
    record {
      hands = hands_all g.V.RowSink.takes (rows_of_node state) (range_with_len 0 nodes) c.loop-node.node c.args.sink.now c.loop-node.sink c.loop-node.rows
          (omega (arith, test, count, length-range_with_len 0 nodes)) c.loop-node.invariant.hands;
    }

use Rattle.std.proofs.Common.{◌≡◌, ◌∙◌, sym, ap, ap₂, false, List, map, slice_get}
use Rattle.ob_net.specs.declared.net.Node.{Node as ANode}
use Rattle.ob_json.specs.Plans.{are_same_intervals}
use Rattle.ob_state.specs.Next.{next}
use Rattle.ob_book.specs.Forecasts.{intervals_of, name_of_node}
use Rattle.ob_book.specs.Intervals.{nodes_then}
use Rattle.ob_book.proofs.Forecasting.{changed_section, name_is, nodes_lead}
use Rattle.ob_book.proofs.Unchanged.{not_shown}
use Rattle.ob_book.proofs.forecast.section_change.Goals as goal

pub returns-then-keeps_intervals-clause-change : goal.returns-then-keeps_intervals-clause-change
returns-then-keeps_intervals-clause-change g c =
    let b = c.args.state.now.state in
    not_shown b (next b c.args.plan.now.command) c.args.node
    (c.keeps_intervals.ensures c.if-keeps_intervals.true (g.T.Timeline.content c.args.timeline.now) c.requires.runs)

pub returns-clause-change : goal.returns-clause-change
returns-clause-change g c =
    let b = c.args.state.now.state in
    let p = c.args.plan.now in
    let d = next b p.command in
    let v = c.args.node in
    let before : c.in_ok-before.before.items ≡ intervals_of b v = c.in_ok-before.ensures.intervals in
    let after : c.in_ok-after.after.items ≡ intervals_of d v = c.in_ok-after.ensures.intervals in
    let nodes : nodes_then b.network c.resolved.result.now ≡ d.network.nodes =
    ap (nodes_then b.network) c.resolved.ensures ∙ nodes_lead b d p.resolved c.requires.plan.resolves.next in
    let name : c.name_after-section.result ≡ name_of_node d v =
    name_is d v c.name_after-section.result (c.name_after-section.ensures ∙ ap (λ (ns : List ANode). slice_get (map (λ m. m.name) ns) v) nodes) in
    let other : are_same_intervals (intervals_of b v) (intervals_of d v) ≡ false =
    ap₂ are_same_intervals (sym before ∙ sym c.deref.ensures.value) (sym after ∙ sym c.deref-2.ensures.value) ∙ sym c.same_intervals.ensures ∙ c.if-same_intervals.false in
    changed_section b d v c.new.result (c.new.ensures.section ∙ name) (c.new.ensures.before ∙ before) (c.new.ensures.after ∙ after) other

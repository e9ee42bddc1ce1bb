use Rattle.std.proofs.Common.{subst, ℕ, ◌+◌, take, get_or}
use Rattle.std.proofs.lemmas.List.{take_all}
use Rattle.ob_time.specs.Calendar.{day_count}
use Rattle.ob_state.specs.Retimings.{runs_in}
use Rattle.ob_post.specs.Balances.{Balances, together}
use Rattle.ob_state.specs.Effects.{amount_of_node, amount_of_nodes, before_change}
use Rattle.ob_post.proofs.Balancing.{balances_as}
use Rattle.ob_state.proofs.NetworkChanges.{altered_balance}
use Rattle.ob_state.proofs.Untouched.{nodes_more, touched_within}
use Rattle.ob_state.proofs.parts.post_sections.Goals as goal

pub loop-node-init : goal.loop-node-init
loop-node-init g c = c.new-posting.ensures (day_count c.args.state.now.state.period) (λ dim key. 0)

pub repost-requires-clause-node : goal.repost-requires-clause-node
repost-requires-clause-node g c =
    let b = c.args.state.now.state in
    touched_within b.network c.args.delta.now (g.T.Timeline.content c.args.timeline.now) (runs_in b) c.touched-touched.result.now c.requires.delta c.touched-touched.ensures.named
    c.loop-node.node-index 0 c.loop-node-test.true

pub repost-requires-clause-touched : goal.repost-requires-clause-touched
repost-requires-clause-touched g c = c.touched-touched.ensures.named c.loop-node.node-index 0 c.loop-node-test.true

pub loop-node-preserved : goal.loop-node-preserved
loop-node-preserved g c =
    let b = c.args.state.now.state in
    let was = before_change c.args.change.now b in
    let ts = c.touched-touched.result.now in
    let i = c.loop-node.node-index in
    let v : ℕ = get_or ts i 0 in
    balances_as (day_count b.period) c.repost.new.posting
    (together (amount_of_nodes was (take i ts)) (amount_of_node was v)) (together (amount_of_nodes b (take i ts)) (amount_of_node b v))
    (amount_of_nodes was (take (i + 1) ts)) (amount_of_nodes b (take (i + 1) ts))
    (λ dim key. nodes_more was ts i 0 dim key c.loop-node-test.true) (λ dim key. nodes_more b ts i 0 dim key c.loop-node-test.true)
    (c.in_ok-repost.ensures.posted (amount_of_nodes was (take i ts)) (amount_of_nodes b (take i ts)) c.loop-node.invariant)

pub returns-clause-posted : goal.returns-clause-posted
returns-clause-posted g c =
    let b = c.args.state.now.state in
    let was = before_change c.args.change.now b in
    let ts = c.touched-touched.result.now in
    let posting = c.loop-node.posting in
    let lists = g.T.Timeline.content c.args.timeline.now in
    let delta = c.args.delta.now in
    let named = touched_within b.network delta lists (runs_in b) ts c.requires.delta c.touched-touched.ensures.named in
    let all : Balances (day_count b.period) posting (amount_of_nodes was ts) (amount_of_nodes b ts) =
    subst (λ xs. Balances (day_count b.period) posting (amount_of_nodes was xs) (amount_of_nodes b xs)) (take_all c.loop-node.node-index ts c.loop-node-test.false) c.loop-node.invariant in
    altered_balance b was.network c.requires.nodes posting lists delta ts c.section_laws.ensures.by_runs c.accepted.ensures.sound.state.sections c.requires.runs c.requires.delta c.touched-touched.ensures.sections c.touched-touched.ensures.rising named all

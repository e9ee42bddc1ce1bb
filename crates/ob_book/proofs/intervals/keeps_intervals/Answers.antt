use Rattle.std.proofs.Common.{◌≡◌, ◌∙◌, sym, ap, subst, arith, ◌<◌, length}
use Rattle.std.specs.Option.{IfSome}
use Rattle.std.proofs.lemmas.Bool.{false≢true}
use Rattle.ob_net.specs.Network.{Network}
use Rattle.ob_post.specs.Causes.{KeepsCause}
use Rattle.ob_sweep.specs.Timeline.{runs_at}
use Rattle.ob_state.specs.Next.{next}
use Rattle.ob_state.specs.Resolved.{change_by}
use Rattle.ob_state.specs.declared.resolved.Resolved.{Resolved}
use Rattle.ob_state.specs.declared.retiming.Retiming.{Retiming}
use Rattle.ob_book.specs.Intervals.{runs_then}
use Rattle.ob_book.proofs.Unchanged.{node_stays}
use Rattle.ob_book.proofs.intervals.keeps_intervals.Goals as goal

pub returns : goal.returns
returns g c = λ keeps lists are.
    let b = c.args.state.now.state in
    let p = c.args.plan.now in
    let v = c.args.node in
    let count = c.nodes.ensures.count in
    let nodes = ap (λ (n : Network). length n.nodes) c.net.ensures.network in
    let there : v < length b.network.nodes = omega (arith, count, nodes, c.if-node-nodes.false) in
    let causes : IfSome (change_by p.resolved) KeepsCause = subst (λ (r : Resolved). IfSome (change_by r) KeepsCause) c.resolved.ensures
    (c.gives_another_cause.ensures (λ t. false≢true (sym c.if-gives_another_cause.false ∙ t))) in
    let untouched : runs_then p.retiming lists v ≡ runs_at lists v = subst (λ (r : Retiming). runs_then r lists v ≡ runs_at lists v) c.retiming.ensures (c.keeps_runs.ensures keeps lists) in
    node_stays b (next b p.command) p.resolved p.retiming lists v c.cause_laws.ensures.entered c.cause_laws.ensures.changed c.cause_laws.ensures.same c.accepted.ensures.sound.numbered
    c.requires.plan.resolves.takes c.requires.plan.resolves.next are c.requires.plan.retiming there causes untouched

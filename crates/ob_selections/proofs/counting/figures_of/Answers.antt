use Rattle.std.proofs.Common.{◌≡◌, ◌+◌, ◌*◌, ◌^◌, get_or, length, refl, ap, ◌∙◌, arith, rules}
use Rattle.ob_net.specs.Network.{Network}
use Rattle.ob_sweep.proofs.Related.{section_is_node}
use Rattle.ob_index.specs.Interruptions.{duration}
use Rattle.ob_state.specs.State.{BookState}
use Rattle.ob_selections.specs.Tallies.{tally_of}
use Rattle.ob_selections.proofs.Added.{at_most_more}
use Rattle.ob_selections.proofs.Summed.{below, below_all, below_more, below_none, figures_are, on_section, over, summed_more}
use Rattle.ob_selections.proofs.Zeros.{zero_at, zero_at_most}
use Rattle.ob_selections.proofs.counting.figures_of.Goals as goal

pub loop-node-init : goal.loop-node-init
loop-node-init g c =
    let b : BookState = c.args.book.now.state in
    record {
      summed = rw (below_none b.customers) (record { sustained = refl; seconds = refl; momentary = refl; customers = refl; places = refl; each = λ j small. zero_at 10 j; served = refl });
      small = record { sustained = omega arith; seconds = omega arith; momentary = omega arith; customers = omega arith; each = λ j small. zero_at_most 10 j _; served = omega arith };
      length = search rules;
    }

pub loop-node-preserved : goal.loop-node-preserved
loop-node-preserved g c =
    let b : BookState = c.args.book.now.state in
    let x = c.args.selection.now in
    let n = c.loop-node.node in
    let more = c.add_node.ensures.more in
    record {
      summed = summed_more (over b x (below n b.customers)) (over b x (on_section n b.customers)) (over b x (below (n + 1) b.customers)) c.loop-node.figures c.add_node.new.figures
          (λ number. below_more (λ c'. number (tally_of b x c')) n b.customers) c.loop-node.invariant.summed more;
      small = c.add_node.ensures.small;
      length = more.length ∙ c.loop-node.invariant.length;
    }

pub returns-clause-figures : goal.returns-clause-figures
returns-clause-figures g c =
    let b : BookState = c.args.book.now.state in
    let x = c.args.selection.now in
    let n = c.loop-node.node in
    let past = c.loop-node-test.false in
    let nodes : c.nodes-node-end.result ≡ length b.network.nodes = c.nodes-node-end.ensures.count ∙ ap (λ (net : Network). length net.nodes) c.net.ensures.network in
    let all : below n b.customers ≡ b.customers =
    below_all n b.customers (λ k d l. let node = section_is_node b.network (get_or b.customers k d).section (c.accepted.ensures.sound.state.sections k d l) in omega (arith, node, nodes, past)) in
    figures_are b x c.loop-node.figures (rw all at c.loop-node.invariant.summed)
    (c.loop-node.invariant.length ∙ ap duration c.days_of-days.ensures.days)

pub returns-clause-small : goal.returns-clause-small
returns-clause-small g c =
    let b : BookState = c.args.book.now.state in
    let nodes : c.nodes-node-end.result ≡ length b.network.nodes = c.nodes-node-end.ensures.count ∙ ap (λ (net : Network). length net.nodes) c.net.ensures.network in
    let few = c.accepted.ensures.sound.network.few_nodes in
    let end = c.loop-node.auto in
    at_most_more (c.loop-node.node * 2 ^ 42) (2 ^ 52) c.loop-node.figures (omega (arith, nodes, few, end)) c.loop-node.invariant.small

pub returns-clause-short : goal.returns-clause-short
returns-clause-short g c =
    let long = c.loop-node.invariant.length in
    let short = c.days_of-days.ensures.short in
    omega (arith, long, short)

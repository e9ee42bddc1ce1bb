use Rattle.std.proofs.Common.{◌≡◌, ◌∙◌, sym, ap, subst, ℕ, ◌+◌, List, Some, None}
use Rattle.std.proofs.lemmas.Result.{on_ok_weaker}
use Rattle.ob_net.specs.Network.{home_feeder}
use Rattle.ob_sweep.specs.declared.Run.{Run}
use Rattle.ob_time.specs.Calendar.{day_count, days_of}
use Rattle.ob_post.specs.SectionAmounts.{amount_of_runs}
use Rattle.ob_post.specs.declared.Dim.{Dim}
use Rattle.ob_state.specs.States.{BookValue}
use Rattle.ob_state.specs.Retimings.{runs_in}
use Rattle.ob_post.specs.Balances.{together}
use Rattle.ob_state.specs.Effects.{amount_of_node, before_change}
use Rattle.ob_state.proofs.Amounting.{feeder_from_one, is_section}
use Rattle.ob_post.proofs.Balancing.{balances_as}
use Rattle.ob_state.proofs.NodeByNode.{no_amounts, section_amount}
use Rattle.ob_state.proofs.NetworkChanges.{same_home}
use Rattle.ob_state.proofs.Reposting.{Takes, Gives}
use Rattle.ob_state.proofs.parts.repost.Goals as goal

pub returns-in_default-clause-posted : goal.returns-in_default-clause-posted
returns-in_default-clause-posted g c = λ old new bal.
    let b = c.args.state.now.state in
    let before = before_change c.args.change.now b in
    let v = c.args.node in
    let hb : home_feeder b.network v ≡ None = ap (λ (s : BookValue). home_feeder s.state.network v) (sym c.state.view_is) ∙ sym c.feeder_of.ensures ∙ c.in_default.is in
    let ha : home_feeder before.network v ≡ None = same_home before.network b.network c.requires.nodes v ∙ hb in
    no_amounts (day_count b.period) c.args.posting.now before b v ha hb old new bal

pub take-requires-clause-feeder : goal.take-requires-clause-feeder
take-requires-clause-feeder g c =
    feeder_from_one c.args.state.now.state.network c.args.node c.in-Some.feeder c.requires.sound.network
    (ap (λ (s : BookValue). home_feeder s.state.network c.args.node) (sym c.state.view_is) ∙ sym c.feeder_of.ensures ∙ c.in-Some.is)

pub give-requires-clause-feeder : goal.give-requires-clause-feeder
give-requires-clause-feeder g c =
    feeder_from_one c.args.state.now.state.network c.args.node c.in-Some.feeder c.requires.sound.network
    (ap (λ (s : BookValue). home_feeder s.state.network c.args.node) (sym c.state.view_is) ∙ sym c.feeder_of.ensures ∙ c.in-Some.is)

pub returns-clause-posted : goal.returns-clause-posted
returns-clause-posted g c = λ old new bal.
    let b = c.args.state.now.state in
    let before = before_change c.args.change.now b in
    let v = c.args.node in
    let f = c.in-Some.feeder in
    let was = c.runs_of.result.now in
    let is = c.runs.result.now in
    let of : List Run → Dim → ℕ → ℕ = λ runs. amount_of_runs b.entries b.customers (days_of b.period) f runs in
    let hb : home_feeder b.network v ≡ Some f = ap (λ (s : BookValue). home_feeder s.state.network v) (sym c.state.view_is) ∙ sym c.feeder_of.ensures ∙ c.in-Some.is in
    let ha : home_feeder before.network v ≡ Some f = same_home before.network b.network c.requires.nodes v ∙ hb in
    let old_runs : was ≡ runs_in before v = c.runs_of.ensures.runs ∙ c.requires.runs.defined v (is_section (home_feeder before.network v) f ha) in
    let new_runs : is ≡ runs_in b v = (c.requires.delta.named v is c.runs.ensures.runs).0 in
    let takes = subst (λ (s : BookValue). Takes s.state s.state.entries c.args.posting.now c.take.new.self f was) c.state.view_is (rw c.deref.ensures at c.in_ok-take.ensures.taken) in
    let gives = subst (λ (s : BookValue). Gives s.state s.state.entries c.give.result c.take.new.self c.give.new.self f is) c.state.view_is (rw c.deref.ensures at c.give.ensures.given) in
    on_ok_weaker c.give.result
    (λ h. balances_as (day_count b.period) c.give.new.self (together old (of was)) (together new (of is)) (together old (amount_of_node before v)) (together new (amount_of_node b v))
    (λ dim key. ap (λ n. old dim key + n) (section_amount before v f was ha old_runs dim key))
    (λ dim key. ap (λ n. new dim key + n) (section_amount b v f is hb new_runs dim key))
    h)
    (gives _ _ (takes old new bal))

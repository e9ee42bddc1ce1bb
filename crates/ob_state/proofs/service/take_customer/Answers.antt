use Rattle.std.proofs.Common.{◌≡◌, ◌∙◌, sym, ap, subst, refl, is_some, true≢false, ℕ, ◌+◌, Some, None}
use Rattle.std.specs.Result.{OnOk}
use Rattle.std.proofs.lemmas.Result.{on_ok_weaker}
use Rattle.ob_net.specs.Network.{home_feeder}
use Rattle.ob_time.specs.Calendar.{day_count, days_of}
use Rattle.ob_post.specs.SectionAmounts.{amount_of_runs}
use Rattle.ob_post.specs.declared.Dim.{Dim}
use Rattle.ob_state.specs.States.{BookValue}
use Rattle.ob_post.specs.Balances.{Balances, together}
use Rattle.ob_state.specs.Effects.{amount_of_customer}
use Rattle.ob_state.proofs.Amounting.{feeder_from_one, one_customer}
use Rattle.ob_post.proofs.Balancing.{balances_as}
use Rattle.ob_state.proofs.service.take_customer.Goals as goal

-- the customer is of a section
pub returns-in_default-clause-taken : goal.returns-in_default-clause-taken
returns-in_default-clause-taken g c =
    let hb : home_feeder c.args.state.now.state.network c.args.customer.section ≡ None = ap (λ (s : BookValue). home_feeder s.state.network c.args.customer.section) (sym c.state.view_is) ∙ sym c.feeder_of.ensures ∙ c.in_default.is in
    absurd (true≢false (sym c.requires.section ∙ ap is_some hb))

pub take-requires-clause-feeder : goal.take-requires-clause-feeder
take-requires-clause-feeder g c =
    feeder_from_one c.args.state.now.state.network c.args.customer.section c.in-Some.feeder c.requires.sound.network
    (ap (λ (s : BookValue). home_feeder s.state.network c.args.customer.section) (sym c.state.view_is) ∙ sym c.feeder_of.ensures ∙ c.in-Some.is)

pub returns-clause-taken : goal.returns-clause-taken
returns-clause-taken g c = λ old new bal.
    let b = c.args.state.now.state in
    let f = c.in-Some.feeder in
    let runs = c.runs_of-runs.result.now in
    let roll = c.in_ok-roll.roll.customers in
    let hb : home_feeder b.network c.args.customer.section ≡ Some f = ap (λ (s : BookValue). home_feeder s.state.network c.args.customer.section) (sym c.state.view_is) ∙ sym c.feeder_of.ensures ∙ c.in-Some.is in
    let of : Dim → ℕ → ℕ = amount_of_runs b.entries roll (days_of b.period) f runs in
    let gives = subst (λ (s : BookValue). (o n : Dim → ℕ → ℕ) → Balances (day_count s.state.period) c.args.posting.now o n
    → OnOk c.take.result (Balances (day_count s.state.period) c.take.new.self (together o (amount_of_runs s.state.entries roll (days_of s.state.period) f runs)) n)) c.state.view_is (rw c.deref.ensures at c.take.ensures.taken) in
    on_ok_weaker c.take.result
    (λ h. balances_as (day_count b.period) c.take.new.self (together old of) new (together old (amount_of_customer b c.args.customer)) new
    (λ dim key. ap (λ n. old dim key + n) (one_customer b c.args.customer (g.T.Timeline.content c.args.timeline.now) f roll runs dim key c.roll_laws.ensures.one c.requires.runs hb c.in_ok-roll.ensures.roll c.runs_of-runs.ensures.runs))
    (λ dim key. refl)
    h)
    (gives old new bal)

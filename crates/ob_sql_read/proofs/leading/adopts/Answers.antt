use Rattle.std.proofs.Common.{arith, Ok, is_some, sym, ap, ap₂, ◌∙◌, true≢false, refl}
use Rattle.ob_state.specs.Refusals.{refusal}
use Rattle.ob_state.specs.Next.{next}
use Rattle.ob_state.specs.State.{BookState}
use Rattle.ob_sql_read.proofs.leading.adopts.Goals as goal

pub returns-in_default-clause-accepted : goal.returns-in_default-clause-accepted
returns-in_default-clause-accepted g c =
    let some = c.decide_noting.ensures.refused (c.in_ok-plan.was ∙ ap Ok c.in_default.is) in
    (λ e. absurd (true≢false (sym e)), λ none. absurd (true≢false (sym some ∙ ap is_some none)))

pub returns-clause-accepted : goal.returns-clause-accepted
returns-clause-accepted g c =
    let is = rw c.in-Some.is at c.in_ok-plan.ensures in
    (λ _. sym (ap₂ refusal c.decide_noting.ensures.state is.command) ∙ is.plan.accepted, λ _. refl)

pub returns-clause-book : goal.returns-clause-book
returns-clause-book g c e =
    let is = rw c.in-Some.is at c.in_ok-plan.ensures in
    c.adopt.ensures.state ∙ ap₂ next c.decide_noting.ensures.state is.command

pub returns-clause-noted : goal.returns-clause-noted
returns-clause-noted g c e noted =
    let is = rw c.in-Some.is at c.in_ok-plan.ensures in
    is.noted noted ∙ ap (λ (s : BookState). s.network) (sym (c.adopt.ensures.state ∙ ap₂ next c.decide_noting.ensures.state is.command))

pub adopt-requires-clause-room : goal.adopt-requires-clause-room
adopt-requires-clause-room g c = (rw c.in-Some.is at c.in_ok-plan.ensures).room

pub adopt-requires-clause-plan : goal.adopt-requires-clause-plan
adopt-requires-clause-plan g c = (rw c.in-Some.is at c.in_ok-plan.ensures).plan

pub returns-in_default-clause-searches : goal.returns-in_default-clause-searches
returns-in_default-clause-searches g c = c.decide_noting.ensures.searches

pub returns-clause-searches : goal.returns-clause-searches
returns-clause-searches g c = omega (arith, c.adopt.ensures.searches, c.decide_noting.ensures.searches)

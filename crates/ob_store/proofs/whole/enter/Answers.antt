use Rattle.std.proofs.Common.{◌≡◌, arith, Bool, Err, None, sym, ap, ap₂, subst, ◌∙◌}
use Rattle.sqlite.specs.Held.{state}
use Rattle.ob_post.specs.MoveLaws.{AreSmall}
use Rattle.ob_state.specs.Amounts.{amount}
use Rattle.ob_state.specs.Next.{next}
use Rattle.ob_state.specs.Refusals.{refusal}
use Rattle.ob_state.specs.States.{BookValue}
use Rattle.ob_sql_rows.proofs.Silence.{silent_same}
use Rattle.ob_record.specs.Leading.{Records}
use Rattle.ob_record.specs.Naming.{IsReferenced}
use Rattle.ob_store.specs.Acting.{under}
use Rattle.ob_store.proofs.Accepting.{none_told}
use Rattle.ob_store.proofs.Within.{by_open, entered, lets_in, memory_is, tries_none}
use Rattle.ob_store.proofs.Searching.{accepted_searched, decided_searched}
use Rattle.ob_store.proofs.whole.enter.Goals as goal

pub act_of-act-requires-clause-small : goal.act_of-act-requires-clause-small
act_of-act-requires-clause-small g c =
    let at : c.args.book.now.state ≡ c.decide.new.self.state = sym c.decide.ensures.state in
    let command : c.args.command.now ≡ c.in-Ok.plan.command = sym c.in-Ok.ensures.command in
    let small = c.in-Ok.ensures.small in
    (subst (λ s. AreSmall (amount s)) at small.0, subst (λ s. AreSmall (amount s)) (ap₂ next at command) small.1)

pub returns-in-Err-clause-silent : goal.returns-in-Err-clause-silent
returns-in-Err-clause-silent g c = silent_same (state g.S.Store c.args.tx.now.conn.now)

pub returns-in-Err-clause-tries : goal.returns-in-Err-clause-tries
returns-in-Err-clause-tries g c clean b shows same fresh =
    let command = c.args.command.now in
    tries_none (state g.S.Store c.args.tx.now.conn.now) (state g.S.Store c.args.tx.now.conn.now) c.decide.new.self.state b (under c.args.reference.now command) fresh c.in-Err.stop
    (λ r e. sym (ap (λ s. refusal s command) same) ∙ (c.in-Err.ensures.refused r).0 (ap Err e))

pub returns-in-Err-clause-cause : goal.returns-in-Err-clause-cause
returns-in-Err-clause-cause g c clean b shows whole same fresh = none_told c.in-Err.stop (λ f e. c.in-Err.ensures.err f (ap Err e))

pub returns-in-Ok-write_act-clause-inside : goal.returns-in-Ok-write_act-clause-inside
returns-in-Ok-write_act-clause-inside g c clean inside = (c.in-Ok-write_act.ensures.makes clean inside).inside

pub returns-in-Ok-write_act-clause-tries : goal.returns-in-Ok-write_act-clause-tries
returns-in-Ok-write_act-clause-tries g c clean b shows same fresh =
    let r = c.args.reference.now in
    let command = c.args.command.now in
    let a = under r command in
    let p = c.postings.result.now in
    let plan = c.in-Ok.plan in
    let at : c.decide.new.self.state ≡ b.book = c.decide.ensures.state ∙ same in
    let plan_is : plan.command ≡ command = c.in-Ok.ensures.command in
    let free : refusal b.book command ≡ None = sym (ap₂ refusal at plan_is) ∙ c.in-Ok.ensures.plan.accepted in
    let records : Records b a p c.act_of-act.result = rw (c.bytes.ensures.value, plan_is) at (c.act_of-act.ensures.records b shows.reached (sym at) p c.postings.ensures.posted) in
    let named : IsReferenced a = (c.bytes.ensures.identifier, c.requires.valid) in
    let old = state g.S.Store c.args.tx.now.conn.now in
    let new = state g.S.Store c.write_act.new.tx.conn.now in
    let law = c.reached_law.ensures.goes_on in
    entered old new c.adopt.new.self.state b a p c.act_of-act.result law shows records fresh free named
    (c.in-Ok-write_act.ensures.makes clean shows.inside)
    (c.adopt.ensures.state ∙ ap₂ next at plan_is ∙ memory_is old new c.adopt.new.self.state b a p c.act_of-act.result law shows records fresh free named)

pub returns-in-Err-write_act-clause-cause : goal.returns-in-Err-write_act-clause-cause
returns-in-Err-write_act-clause-cause g c clean b shows whole same fresh =
    let r = c.args.reference.now in
    let command = c.args.command.now in
    let a = under r command in
    let p = c.postings.result.now in
    let at : c.decide.new.self.state ≡ b.book = c.decide.ensures.state ∙ same in
    let plan_is : c.in-Ok.plan.command ≡ command = c.in-Ok.ensures.command in
    let free : refusal b.book command ≡ None = sym (ap₂ refusal at plan_is) ∙ c.in-Ok.ensures.plan.accepted in
    let records : Records b a p c.act_of-act.result = rw (c.bytes.ensures.value, plan_is) at (c.act_of-act.ensures.records b shows.reached (sym at) p c.postings.ensures.posted) in
    let old = state g.S.Store c.args.tx.now.conn.now in
    let new = state g.S.Store c.write_act.new.tx.conn.now in
    by_open {X = Bool} old new (Err c.in-Err-write_act.stop)
    (λ live store. c.in-Err-write_act.ensures.cause clean store shows.inside
    (lets_in old new c.decide.new.self.state b a p c.act_of-act.result c.reached_law.ensures.goes_on shows records fresh free (c.bytes.ensures.identifier, c.requires.valid) live whole))

-- a refused command was not searched for
pub returns-in-Err-clause-searched : goal.returns-in-Err-clause-searched
returns-in-Err-clause-searched g c b same fresh =
    decided_searched g.T.Timeline.bound b (under c.args.reference.now c.args.command.now) fresh c.args.book.now.state same c.args.book.now.searches c.decide.new.self.searches c.decide.ensures.searches
    (λ r is. ap (λ (v : BookValue). v.searches) (c.in-Err.ensures.same r ((c.in-Err.ensures.refused r).1 is)))

pub returns-in-Ok-write_act-clause-searched : goal.returns-in-Ok-write_act-clause-searched
returns-in-Ok-write_act-clause-searched g c b same fresh =
    let at : c.decide.new.self.state ≡ b.book = c.decide.ensures.state ∙ same in
    let free : refusal b.book c.args.command.now ≡ None = sym (ap₂ refusal at c.in-Ok.ensures.command) ∙ c.in-Ok.ensures.plan.accepted in
    accepted_searched g.T.Timeline.bound b (under c.args.reference.now c.args.command.now) fresh c.args.book.now.state same c.args.book.now.searches c.adopt.new.self.searches (omega (arith, c.adopt.ensures.searches, c.decide.ensures.searches)) free

pub returns-in-Err-write_act-clause-searched : goal.returns-in-Err-write_act-clause-searched
returns-in-Err-write_act-clause-searched g c b same fresh =
    let at : c.decide.new.self.state ≡ b.book = c.decide.ensures.state ∙ same in
    let free : refusal b.book c.args.command.now ≡ None = sym (ap₂ refusal at c.in-Ok.ensures.command) ∙ c.in-Ok.ensures.plan.accepted in
    accepted_searched g.T.Timeline.bound b (under c.args.reference.now c.args.command.now) fresh c.args.book.now.state same c.args.book.now.searches c.decide.new.self.searches c.decide.ensures.searches free

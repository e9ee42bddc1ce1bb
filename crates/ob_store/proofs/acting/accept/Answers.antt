use Rattle.std.proofs.Common.{◌≡◌, ◌+◌, arith, None, Ok, Err, sym, ap, ap₂, subst, ◌∙◌}
use Rattle.sqlite.specs.Held.{state}
use Rattle.ob_post.specs.MoveLaws.{AreSmall}
use Rattle.ob_state.specs.Amounts.{amount, moves}
use Rattle.ob_state.specs.Next.{next}
use Rattle.ob_state.specs.Refusals.{refusal}
use Rattle.ob_state.specs.States.{BookValue}
use Rattle.ob_record.specs.Leading.{Records}
use Rattle.ob_record.specs.Naming.{IsReferenced}
use Rattle.ob_store.specs.Acting.{under}
use Rattle.ob_record.specs.Tables.{tables_of}
use Rattle.ob_store.proofs.Faults.{any_still, as_any}
use Rattle.ob_store.proofs.Accepting.{answered, book_is, caused, decided, done, failed, none_told}
use Rattle.ob_store.proofs.Searching.{accepted_searched, decided_searched}
use Rattle.ob_store.proofs.acting.accept.Goals as goal

pub returns-in-Err-clause-acts : goal.returns-in-Err-clause-acts
returns-in-Err-clause-acts g c clean b keeps same fresh =
    let command = c.args.command.now in
    decided g.S.Store c.args.conn.now c.args.book.now.state c.decide.new.self.state b (under c.args.reference.now command) c.decide.ensures.state keeps fresh c.in-Err.stop
    (λ r e. sym (ap (λ s. refusal s command) same) ∙ (c.in-Err.ensures.refused r).0 (ap Err e))
    (λ f e. c.in-Err.ensures.err f (ap Err e))

pub act_of-act-requires-clause-small : goal.act_of-act-requires-clause-small
act_of-act-requires-clause-small g c =
    let at : c.args.book.now.state ≡ c.decide.new.self.state = sym c.decide.ensures.state in
    let command : c.args.command.now ≡ c.in-Ok.plan.command = sym c.in-Ok.ensures.command in
    let small = c.in-Ok.ensures.small in
    (subst (λ s. AreSmall (amount s)) at small.0, subst (λ s. AreSmall (amount s)) (ap₂ next at command) small.1)

pub returns-in-Ok-commit_act-clause-acts : goal.returns-in-Ok-commit_act-clause-acts
returns-in-Ok-commit_act-clause-acts g c clean b keeps same fresh =
    let r = c.args.reference.now in
    let command = c.args.command.now in
    let a = under r command in
    let p = c.postings.result.now in
    let plan = c.in-Ok.plan in
    let at : c.decide.new.self.state ≡ b.book = c.decide.ensures.state ∙ same in
    let plan_is : plan.command ≡ command = c.in-Ok.ensures.command in
    let free : refusal b.book command ≡ None = sym (ap₂ refusal at plan_is) ∙ c.in-Ok.ensures.plan.accepted in
    let records : Records b a p c.act_of-act.result = rw (c.bytes.ensures.value, plan_is) at (c.act_of-act.ensures.records b keeps.reached (sym at) p c.postings.ensures.posted) in
    let counts = c.reached_law.ensures.counts b keeps.reached in
    let law = c.reached_law.ensures.goes_on in
    let named : IsReferenced a = (c.bytes.ensures.identifier, c.requires.valid) in
    let old = c.args.conn.now in
    let new = c.commit_act.new.conn in
    let number : b.book.accepted + 1 ≡ c.act_of-act.result.«no» = ap (λ s. s.accepted + 1) (sym at) ∙ sym c.act_of-act.ensures.«no» in
    let moved : moves b.book (next b.book command) ≡ c.new-moved.result =
    sym (ap₂ (λ s x. moves s (next s x)) at plan_is) ∙ sym c.in-Ok.ensures.plan.moved ∙ sym c.moves.ensures ∙ sym c.in-Ok-from_slice.ensures.items ∙ sym c.new-moved.ensures in (
      answered g.S.Store old new b a p c.act_of-act.result law keeps records fresh free named counts ∙ ap₂ (λ n m. Ok (record { number = n; moved = m })) number moved,
      done g.S.Store old new b a p c.act_of-act.result law keeps records fresh free named c.in-Ok-commit_act.ensures.done,
      c.adopt.ensures.state ∙ ap₂ next at plan_is ∙ book_is g.S.Store old new b a p c.act_of-act.result law keeps records fresh free named,
    )

pub returns-in-Err-commit_act-clause-acts : goal.returns-in-Err-commit_act-clause-acts
returns-in-Err-commit_act-clause-acts g c clean b keeps same fresh =
    let r = c.args.reference.now in
    let command = c.args.command.now in
    let a = under r command in
    let p = c.postings.result.now in
    let at : c.decide.new.self.state ≡ b.book = c.decide.ensures.state ∙ same in
    let plan_is : c.in-Ok.plan.command ≡ command = c.in-Ok.ensures.command in
    let free : refusal b.book command ≡ None = sym (ap₂ refusal at plan_is) ∙ c.in-Ok.ensures.plan.accepted in
    let records : Records b a p c.act_of-act.result = rw (c.bytes.ensures.value, plan_is) at (c.act_of-act.ensures.records b keeps.reached (sym at) p c.postings.ensures.posted) in
    failed g.S.Store c.args.conn.now c.commit_act.new.conn b a p c.act_of-act.result c.reached_law.ensures.goes_on keeps records fresh free (c.bytes.ensures.identifier, c.requires.valid)
    c.args.book.now.state c.decide.new.self.state c.decide.ensures.state c.in-Err-commit_act.stop c.in-Err-commit_act.ensures.faults c.in-Err-commit_act.ensures.undone c.in-Err-commit_act.ensures.either

pub returns-in-Err-clause-cause : goal.returns-in-Err-clause-cause
returns-in-Err-clause-cause g c clean b keeps numbers same fresh = none_told c.in-Err.stop (λ f e. c.in-Err.ensures.err f (ap Err e))

pub returns-in-Err-commit_act-clause-cause : goal.returns-in-Err-commit_act-clause-cause
returns-in-Err-commit_act-clause-cause g c clean b keeps numbers same fresh =
    let r = c.args.reference.now in
    let command = c.args.command.now in
    let a = under r command in
    let p = c.postings.result.now in
    let at : c.decide.new.self.state ≡ b.book = c.decide.ensures.state ∙ same in
    let plan_is : c.in-Ok.plan.command ≡ command = c.in-Ok.ensures.command in
    let free : refusal b.book command ≡ None = sym (ap₂ refusal at plan_is) ∙ c.in-Ok.ensures.plan.accepted in
    let records : Records b a p c.act_of-act.result = rw (c.bytes.ensures.value, plan_is) at (c.act_of-act.ensures.records b keeps.reached (sym at) p c.postings.ensures.posted) in
    caused g.S.Store c.args.conn.now c.commit_act.new.conn b a p c.act_of-act.result c.reached_law.ensures.goes_on keeps records fresh free (c.bytes.ensures.identifier, c.requires.valid)
    c.in-Err-commit_act.stop numbers (λ store. c.in-Err-commit_act.ensures.cause store clean)

pub returns-in-Ok-commit_act-clause-numbered : goal.returns-in-Ok-commit_act-clause-numbered
returns-in-Ok-commit_act-clause-numbered g c b keeps same numbers =
    let a = under c.args.reference.now c.args.command.now in
    let p = c.postings.result.now in
    let at : c.decide.new.self.state ≡ b.book = c.decide.ensures.state ∙ same in
    let records : Records b a p c.act_of-act.result = rw (c.bytes.ensures.value, c.in-Ok.ensures.command) at (c.act_of-act.ensures.records b keeps.reached (sym at) p c.postings.ensures.posted) in
    c.commit_act.ensures.numbered (tables_of b) keeps.kept records.needs numbers

pub returns-in-Err-commit_act-clause-numbered : goal.returns-in-Err-commit_act-clause-numbered
returns-in-Err-commit_act-clause-numbered g c b keeps same numbers =
    let a = under c.args.reference.now c.args.command.now in
    let p = c.postings.result.now in
    let at : c.decide.new.self.state ≡ b.book = c.decide.ensures.state ∙ same in
    let records : Records b a p c.act_of-act.result = rw (c.bytes.ensures.value, c.in-Ok.ensures.command) at (c.act_of-act.ensures.records b keeps.reached (sym at) p c.postings.ensures.posted) in
    c.commit_act.ensures.numbered (tables_of b) keeps.kept records.needs numbers

pub returns-in-Err-clause-survives : goal.returns-in-Err-clause-survives
returns-in-Err-clause-survives g c = any_still (state g.S.Store c.args.conn.now)

pub returns-in-Ok-commit_act-clause-survives : goal.returns-in-Ok-commit_act-clause-survives
returns-in-Ok-commit_act-clause-survives g c = as_any (state g.S.Store c.args.conn.now) (state g.S.Store c.commit_act.new.conn) _ c.commit_act.ensures.survives

pub returns-in-Err-commit_act-clause-survives : goal.returns-in-Err-commit_act-clause-survives
returns-in-Err-commit_act-clause-survives g c = as_any (state g.S.Store c.args.conn.now) (state g.S.Store c.commit_act.new.conn) _ c.commit_act.ensures.survives

-- a refused command was not searched for
pub returns-in-Err-clause-searched : goal.returns-in-Err-clause-searched
returns-in-Err-clause-searched g c b same fresh =
    decided_searched g.T.Timeline.bound b (under c.args.reference.now c.args.command.now) fresh c.args.book.now.state same c.args.book.now.searches c.decide.new.self.searches c.decide.ensures.searches
    (λ r is. ap (λ (v : BookValue). v.searches) (c.in-Err.ensures.same r ((c.in-Err.ensures.refused r).1 is)))

pub returns-in-Err-from_slice-clause-searched : goal.returns-in-Err-from_slice-clause-searched
returns-in-Err-from_slice-clause-searched g c b same fresh =
    let at : c.decide.new.self.state ≡ b.book = c.decide.ensures.state ∙ same in
    let free : refusal b.book c.args.command.now ≡ None = sym (ap₂ refusal at c.in-Ok.ensures.command) ∙ c.in-Ok.ensures.plan.accepted in
    accepted_searched g.T.Timeline.bound b (under c.args.reference.now c.args.command.now) fresh c.args.book.now.state same c.args.book.now.searches c.decide.new.self.searches c.decide.ensures.searches free

pub returns-in-Ok-commit_act-clause-searched : goal.returns-in-Ok-commit_act-clause-searched
returns-in-Ok-commit_act-clause-searched g c b same fresh =
    let at : c.decide.new.self.state ≡ b.book = c.decide.ensures.state ∙ same in
    let free : refusal b.book c.args.command.now ≡ None = sym (ap₂ refusal at c.in-Ok.ensures.command) ∙ c.in-Ok.ensures.plan.accepted in
    accepted_searched g.T.Timeline.bound b (under c.args.reference.now c.args.command.now) fresh c.args.book.now.state same c.args.book.now.searches c.adopt.new.self.searches (omega (arith, c.adopt.ensures.searches, c.decide.ensures.searches)) free

pub returns-in-Err-commit_act-clause-searched : goal.returns-in-Err-commit_act-clause-searched
returns-in-Err-commit_act-clause-searched g c b same fresh =
    let at : c.decide.new.self.state ≡ b.book = c.decide.ensures.state ∙ same in
    let free : refusal b.book c.args.command.now ≡ None = sym (ap₂ refusal at c.in-Ok.ensures.command) ∙ c.in-Ok.ensures.plan.accepted in
    accepted_searched g.T.Timeline.bound b (under c.args.reference.now c.args.command.now) fresh c.args.book.now.state same c.args.book.now.searches c.decide.new.self.searches c.decide.ensures.searches free

use Rattle.std.proofs.Common.{◌≢◌, inl, inr, sym, ◌∙◌, arith, refl}
use Rattle.std.specs.Prelude.{⊤}
use Rattle.sqlite.specs.Held.{state}
use Rattle.sqlite.specs.State.{HasCleanDisk}
use Rattle.ob_command.specs.Commands.{body_text}
use Rattle.ob_record.specs.Tables.{tables_of}
use Rattle.ob_store.specs.Acting.{under}
use Rattle.ob_store.specs.Keeping.{KeepsBook}
use Rattle.ob_store.proofs.Known.{is_new, is_known, of_one}
use Rattle.ob_store.proofs.Answering.{reached_act, stays, again, cause_since, conflict, fault_acts, again_acts, each_ok, read_cause}
use Rattle.ob_sql_write.proofs.Commits.{numbers_survive}
use Rattle.ob_store.proofs.Failing.{no_store}
use Rattle.ob_store.proofs.Faults.{any_still, any_then, as_any}
use Rattle.ob_store.proofs.acting.act_on.Goals as goal

pub returns-in-Ok-New-clause-acts : goal.returns-in-Ok-New-clause-acts
returns-in-Ok-New-clause-acts g c clean b keeps same =
    let mid : HasCleanDisk (state g.S.Store c.look_up.new.conn) = c.accept.ensures.clean clean in
    let still : KeepsBook (state g.S.Store c.look_up.new.conn) b = record { kept = c.look_up.ensures.kept (tables_of b) keeps.kept; reached = keeps.reached; valid = keeps.valid } in
    let rows = rw (c.bytes.ensures.value, c.in-Ok-New.field-0-is) at (c.in-Ok-New.ensures.found mid (tables_of b) keeps.kept) in
    c.accept.ensures.acts clean b still same (is_new c.args.reference.now b rows)

pub returns-in-Ok-Same-clause-acts : goal.returns-in-Ok-Same-clause-acts
returns-in-Ok-Same-clause-acts g c clean b keeps same =
    let r = c.args.reference.now in
    let command = c.args.command.now in
    let mid : HasCleanDisk (state g.S.Store c.look_up.new.conn) = omega (arith, c.stored_reply.ensures.survives.clean, clean) in
    let still : KeepsBook (state g.S.Store c.look_up.new.conn) b = record { kept = c.look_up.ensures.kept (tables_of b) keeps.kept; reached = keeps.reached; valid = keeps.valid } in
    let end = c.stored_reply.ensures.kept b still in
    let rows = rw (c.bytes.ensures.value, c.deref.ensures.value, c.in-Ok.ensures.text, c.in-Ok-Same.field-0-is) at (c.in-Ok-Same.ensures.found mid (tables_of b) keeps.kept) in
    let it = is_known r b c.in-Ok-Same.«no» (body_text command) rows in
    let answered = again b r command c.in-Ok-Same.«no» it.number it.found it.there it.body_is in
    again_acts g.S.Store c.stored_reply.new.conn c.args.book.now.state b (under r command) end (reached_act c.reached_law.ensures.goes_on b (under r command) keeps.reached) (c.bytes.ensures.identifier, c.body_text.ensures.valid)
    c.in-Ok-Same.«no» c.stored_reply.result c.stored_reply.ensures.faults
    (each_ok c.stored_reply.result (c.stored_reply.ensures.reply clean) (λ x f. f b still it.least it.most))
    (stays b r command c.in-Ok-Same.«no» it.number) answered same

pub returns-in-Ok-Other-clause-acts : goal.returns-in-Ok-Other-clause-acts
returns-in-Ok-Other-clause-acts g c clean b keeps same =
    let r = c.args.reference.now in
    let command = c.args.command.now in
    let still : KeepsBook (state g.S.Store c.look_up.new.conn) b = record { kept = c.look_up.ensures.kept (tables_of b) keeps.kept; reached = keeps.reached; valid = keeps.valid } in
    let rows = rw (c.bytes.ensures.value, c.deref.ensures.value, c.in-Ok.ensures.text, c.in-Ok-Other.field-0-is) at (c.in-Ok-Other.ensures.found clean (tables_of b) keeps.kept) in
    let it = is_known r b c.in-Ok-Other.«no» rows.0 rows.2 in
    let other : body_text it.found.command ≢ body_text command = λ e. rows.1 (sym it.body_is ∙ e) in
    (conflict b r command c.in-Ok-Other.«no» it.number it.found it.there other, still, refl)

pub returns-clause-acts : goal.returns-clause-acts
returns-clause-acts g c clean b keeps same =
    let still : KeepsBook (state g.S.Store c.look_up.new.conn) b = record { kept = c.look_up.ensures.kept (tables_of b) keeps.kept; reached = keeps.reached; valid = keeps.valid } in
    let a = under c.args.reference.now c.args.command.now in
    fault_acts g.S.Store c.look_up.new.conn c.args.book.now.state b a still (reached_act c.reached_law.ensures.goes_on b a keeps.reached) (c.bytes.ensures.identifier, c.body_text.ensures.valid) c.in-Err-look_up.stop c.in-Err-look_up.ensures.faults

pub returns-in-Err-clause-cause : goal.returns-in-Err-clause-cause
returns-in-Err-clause-cause g c clean b keeps numbers same = no_store c.in-Err.stop (inr c.in-Err.ensures.err)

pub returns-in-Ok-New-clause-cause : goal.returns-in-Ok-New-clause-cause
returns-in-Ok-New-clause-cause g c clean b keeps numbers same =
    let old = c.args.conn.now in
    let at = c.look_up.new.conn in
    let new = c.accept.new.conn in
    let a = under c.args.reference.now c.args.command.now in
    let mid : HasCleanDisk (state g.S.Store at) = c.accept.ensures.clean clean in
    let still : KeepsBook (state g.S.Store at) b = record { kept = c.look_up.ensures.kept (tables_of b) keeps.kept; reached = keeps.reached; valid = keeps.valid } in
    let rows = rw (c.bytes.ensures.value, c.in-Ok-New.field-0-is) at (c.in-Ok-New.ensures.found mid (tables_of b) keeps.kept) in
    cause_since g.S.Store old at new b a c.accept.result c.look_up.ensures.survives mid c.accept.ensures.counts
    (c.accept.ensures.cause clean b still (numbers_survive (state g.S.Store c.args.conn.now) (state g.S.Store c.look_up.new.conn) c.look_up.ensures.survives numbers) same (is_new c.args.reference.now b rows))

pub returns-in-Ok-Same-clause-cause : goal.returns-in-Ok-Same-clause-cause
returns-in-Ok-Same-clause-cause g c clean b keeps numbers same =
    let old = c.args.conn.now in
    let at = c.look_up.new.conn in
    let new = c.stored_reply.new.conn in
    let r = c.args.reference.now in
    let command = c.args.command.now in
    let a = under r command in
    let mid : HasCleanDisk (state g.S.Store at) = omega (arith, c.stored_reply.ensures.survives.clean, clean) in
    let still : KeepsBook (state g.S.Store at) b = record { kept = c.look_up.ensures.kept (tables_of b) keeps.kept; reached = keeps.reached; valid = keeps.valid } in
    let rows = rw (c.bytes.ensures.value, c.deref.ensures.value, c.in-Ok.ensures.text, c.in-Ok-Same.field-0-is) at (c.in-Ok-Same.ensures.found mid (tables_of b) keeps.kept) in
    let it = is_known r b c.in-Ok-Same.«no» (body_text command) rows in
    cause_since g.S.Store old at new b a c.stored_reply.result c.look_up.ensures.survives mid c.stored_reply.ensures.survives.counts
    (read_cause g.S.Store at new b a c.stored_reply.result (c.stored_reply.ensures.cause clean b still it.least it.most))

pub returns-clause-cause : goal.returns-clause-cause
returns-clause-cause g c clean b keeps numbers same =
    let one = of_one c.args.reference.now c.reaching_law.ensures.accepted c.naming_law.ensures.few b keeps.reached in
    let rows = rw (sym c.bytes.ensures.value) at one in
    λ store. inl (c.in-Err-look_up.ensures.cause clean (tables_of b) keeps.kept rows store)

pub returns-in-Ok-New-clause-numbered : goal.returns-in-Ok-New-clause-numbered
returns-in-Ok-New-clause-numbered g c b keeps same numbers =
    let still : KeepsBook (state g.S.Store c.look_up.new.conn) b = record { kept = c.look_up.ensures.kept (tables_of b) keeps.kept; reached = keeps.reached; valid = keeps.valid } in
    c.accept.ensures.numbered b still same (numbers_survive (state g.S.Store c.args.conn.now) (state g.S.Store c.look_up.new.conn) c.look_up.ensures.survives numbers)

pub returns-in-Ok-Same-clause-numbered : goal.returns-in-Ok-Same-clause-numbered
returns-in-Ok-Same-clause-numbered g c b keeps same numbers =
    numbers_survive (state g.S.Store c.look_up.new.conn) (state g.S.Store c.stored_reply.new.conn) c.stored_reply.ensures.survives
    (numbers_survive (state g.S.Store c.args.conn.now) (state g.S.Store c.look_up.new.conn) c.look_up.ensures.survives numbers)

pub returns-in-Ok-Other-clause-numbered : goal.returns-in-Ok-Other-clause-numbered
returns-in-Ok-Other-clause-numbered g c b keeps same numbers = numbers_survive (state g.S.Store c.args.conn.now) (state g.S.Store c.look_up.new.conn) c.look_up.ensures.survives numbers

pub returns-clause-numbered : goal.returns-clause-numbered
returns-clause-numbered g c b keeps same numbers = numbers_survive (state g.S.Store c.args.conn.now) (state g.S.Store c.look_up.new.conn) c.look_up.ensures.survives numbers

pub returns-in-Err-clause-survives : goal.returns-in-Err-clause-survives
returns-in-Err-clause-survives g c = any_still (state g.S.Store c.args.conn.now)

pub returns-in-Ok-New-clause-survives : goal.returns-in-Ok-New-clause-survives
returns-in-Ok-New-clause-survives g c =
    any_then (state g.S.Store c.args.conn.now) (state g.S.Store c.look_up.new.conn) (state g.S.Store c.accept.new.conn) (λ _. ⊥) (λ _. ⊤) c.look_up.ensures.survives c.accept.ensures.survives

pub returns-in-Ok-Same-clause-survives : goal.returns-in-Ok-Same-clause-survives
returns-in-Ok-Same-clause-survives g c =
    any_then (state g.S.Store c.args.conn.now) (state g.S.Store c.look_up.new.conn) (state g.S.Store c.stored_reply.new.conn) (λ _. ⊥) (λ _. ⊥) c.look_up.ensures.survives c.stored_reply.ensures.survives

pub returns-in-Ok-Other-clause-survives : goal.returns-in-Ok-Other-clause-survives
returns-in-Ok-Other-clause-survives g c = as_any (state g.S.Store c.args.conn.now) (state g.S.Store c.look_up.new.conn) (λ _. ⊥) c.look_up.ensures.survives

pub returns-clause-survives : goal.returns-clause-survives
returns-clause-survives g c = as_any (state g.S.Store c.args.conn.now) (state g.S.Store c.look_up.new.conn) (λ _. ⊥) c.look_up.ensures.survives

pub returns-in-Ok-New-clause-searched : goal.returns-in-Ok-New-clause-searched
returns-in-Ok-New-clause-searched g c clean b keeps same =
    let mid : HasCleanDisk (state g.S.Store c.look_up.new.conn) = c.accept.ensures.clean clean in
    let rows = rw (c.bytes.ensures.value, c.in-Ok-New.field-0-is) at (c.in-Ok-New.ensures.found mid (tables_of b) keeps.kept) in
    c.accept.ensures.searched b same (is_new c.args.reference.now b rows)

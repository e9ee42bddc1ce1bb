use Rattle.std.proofs.Common.{◌≢◌, Bool, Ok, Err, sym, ◌∙◌, arith}
use Rattle.sqlite.specs.Held.{state}
use Rattle.sqlite.specs.State.{HasCleanDisk}
use Rattle.ob_command.specs.Commands.{body_text}
use Rattle.ob_book.specs.Acts.{reply_of}
use Rattle.ob_sql_write.proofs.Steps.{on_ok}
use Rattle.ob_sql_rows.proofs.Failing.{cause_after}
use Rattle.ob_sql_rows.proofs.Silence.{silent_same, silent_then}
use Rattle.ob_record.specs.Tables.{tables_of}
use Rattle.ob_store.specs.Acting.{under}
use Rattle.ob_store.specs.Whole.{LeadsTables, ShowsBook}
use Rattle.ob_store.proofs.Answering.{again, conflict, stays}
use Rattle.ob_store.proofs.Known.{is_known, is_new, of_one}
use Rattle.ob_store.proofs.Within.{by_open, known, leads_same, on_any, shows_after, tries_after, whole_after}
use Rattle.ob_store.proofs.whole.act_within.Goals as goal

pub returns-in-Err-clause-silent : goal.returns-in-Err-clause-silent
returns-in-Err-clause-silent g c = silent_same (state g.S.Store c.args.tx.now.conn.now)

pub returns-in-Ok-New-clause-same_reference : goal.returns-in-Ok-New-clause-same_reference
returns-in-Ok-New-clause-same_reference g c = c.enter.ensures.same_reference ∙ c.in-Ok-New.ensures.looks.same_reference

pub returns-in-Ok-New-clause-silent : goal.returns-in-Ok-New-clause-silent
returns-in-Ok-New-clause-silent g c =
    silent_then (state g.S.Store c.args.tx.now.conn.now) (state g.S.Store c.look_up_within.new.tx.conn.now) (state g.S.Store c.enter.new.tx.conn.now) (c.in-Ok-New.ensures.looks.silent c.requires.inside) c.enter.ensures.silent

pub returns-in-Ok-New-clause-live : goal.returns-in-Ok-New-clause-live
returns-in-Ok-New-clause-live g c clean =
    let mid : HasCleanDisk (state g.S.Store c.look_up_within.new.tx.conn.now) = omega (arith, c.enter.ensures.silent.survives.clean, clean) in
    on_any c.enter.result (c.in-Ok-New.ensures.looks.live mid)

pub returns-in-Ok-New-clause-inside : goal.returns-in-Ok-New-clause-inside
returns-in-Ok-New-clause-inside g c clean =
    let old = state g.S.Store c.args.tx.now.conn.now in
    let mid : HasCleanDisk (state g.S.Store c.look_up_within.new.tx.conn.now) = omega (arith, c.enter.ensures.silent.survives.clean, clean) in
    let first : HasCleanDisk old = omega (arith, (c.in-Ok-New.ensures.looks.silent c.requires.inside).survives.clean, mid) in
    on_ok c.enter.result (c.enter.ensures.inside clean) (λ goes. goes (c.in-Ok-New.ensures.looks.inside mid (c.requires.inside first)))

pub returns-in-Ok-New-clause-tries : goal.returns-in-Ok-New-clause-tries
returns-in-Ok-New-clause-tries g c clean b shows same =
    let old = state g.S.Store c.args.tx.now.conn.now in
    let at = state g.S.Store c.look_up_within.new.tx.conn.now in
    let looks = c.in-Ok-New.ensures.looks in
    let mid : HasCleanDisk at = omega (arith, c.enter.ensures.silent.survives.clean, clean) in
    let live = looks.live mid in
    let rows = rw (c.bytes.ensures.value, c.in-Ok-New.field-0-is) at (c.in-Ok-New.ensures.found mid (shows.schema live) (tables_of b) (shows.holds live)) in
    let leads : LeadsTables old at b b = leads_same old at b shows (looks.stays mid) in
    let still : ShowsBook at b = shows_after old at b b (looks.silent c.requires.inside) mid leads shows (looks.inside mid shows.inside) shows.reached shows.valid in
    tries_after old at (state g.S.Store c.enter.new.tx.conn.now) c.enter.new.book.state b (Ok (c.args.reference.now, c.args.command.now)) c.enter.result leads
    (c.enter.ensures.tries clean b still same (is_new c.args.reference.now b rows))

pub returns-in-Ok-New-clause-cause : goal.returns-in-Ok-New-clause-cause
returns-in-Ok-New-clause-cause g c clean b shows whole same =
    let old = state g.S.Store c.args.tx.now.conn.now in
    let at = state g.S.Store c.look_up_within.new.tx.conn.now in
    let looks = c.in-Ok-New.ensures.looks in
    let quiet = looks.silent c.requires.inside in
    let mid : HasCleanDisk at = omega (arith, c.enter.ensures.silent.survives.clean, clean) in
    let live = looks.live mid in
    let rows = rw (c.bytes.ensures.value, c.in-Ok-New.field-0-is) at (c.in-Ok-New.ensures.found mid (shows.schema live) (tables_of b) (shows.holds live)) in
    let leads : LeadsTables old at b b = leads_same old at b shows (looks.stays mid) in
    let still : ShowsBook at b = shows_after old at b b quiet mid leads shows (looks.inside mid shows.inside) shows.reached shows.valid in
    cause_after old at (state g.S.Store c.enter.new.tx.conn.now) _ _ c.enter.result quiet.survives mid c.enter.ensures.silent.survives
    (c.enter.ensures.cause clean b still (whole_after old at b b quiet mid leads shows whole) same (is_new c.args.reference.now b rows))

pub returns-in-Ok-Same-clause-silent : goal.returns-in-Ok-Same-clause-silent
returns-in-Ok-Same-clause-silent g c = c.in-Ok-Same.ensures.looks.silent c.requires.inside

pub returns-in-Ok-Same-clause-inside : goal.returns-in-Ok-Same-clause-inside
returns-in-Ok-Same-clause-inside g c clean =
    let first : HasCleanDisk (state g.S.Store c.args.tx.now.conn.now) = omega (arith, (c.in-Ok-Same.ensures.looks.silent c.requires.inside).survives.clean, clean) in
    c.in-Ok-Same.ensures.looks.inside clean (c.requires.inside first)

pub returns-in-Ok-Same-clause-tries : goal.returns-in-Ok-Same-clause-tries
returns-in-Ok-Same-clause-tries g c clean b shows same =
    let r = c.args.reference.now in
    let command = c.args.command.now in
    let old = state g.S.Store c.args.tx.now.conn.now in
    let new = state g.S.Store c.look_up_within.new.tx.conn.now in
    let looks = c.in-Ok-Same.ensures.looks in
    let live = looks.live clean in
    let rows = rw (c.bytes.ensures.value, c.deref.ensures.value, c.in-Ok.ensures.text, c.in-Ok-Same.field-0-is) at (c.in-Ok-Same.ensures.found clean (shows.schema live) (tables_of b) (shows.holds live)) in
    let it = is_known r b c.in-Ok-Same._no (body_text command) rows in
    known old new c.args.book.now.state b (under r command) (reply_of b c.in-Ok-Same._no) shows (stays b r command c.in-Ok-Same._no it.number)
    (again b r command c.in-Ok-Same._no it.number it.found it.there it.body_is) (leads_same old new b shows (looks.stays clean)) same

pub returns-in-Ok-Other-clause-silent : goal.returns-in-Ok-Other-clause-silent
returns-in-Ok-Other-clause-silent g c = c.in-Ok-Other.ensures.looks.silent c.requires.inside

pub returns-in-Ok-Other-clause-tries : goal.returns-in-Ok-Other-clause-tries
returns-in-Ok-Other-clause-tries g c clean b shows same =
    let r = c.args.reference.now in
    let command = c.args.command.now in
    let live = c.in-Ok-Other.ensures.looks.live clean in
    let rows = rw (c.bytes.ensures.value, c.deref.ensures.value, c.in-Ok.ensures.text, c.in-Ok-Other.field-0-is) at (c.in-Ok-Other.ensures.found clean (shows.schema live) (tables_of b) (shows.holds live)) in
    let it = is_known r b c.in-Ok-Other.«no» rows.0 rows.2 in
    let other : body_text it.found.command ≢ body_text command = λ e. rows.1 (sym it.body_is ∙ e) in
    conflict b r command c.in-Ok-Other.«no» it.number it.found it.there other

pub returns-clause-silent : goal.returns-clause-silent
returns-clause-silent g c = c.in-Err-look_up_within.ensures.looks.silent c.requires.inside

pub returns-clause-cause : goal.returns-clause-cause
returns-clause-cause g c clean b shows whole same =
    let one = of_one c.args.reference.now c.reaching_law.ensures.accepted c.naming_law.ensures.few b shows.reached in
    let rows = rw (sym c.bytes.ensures.value) at one in
    by_open {X = Bool} (state g.S.Store c.args.tx.now.conn.now) (state g.S.Store c.look_up_within.new.tx.conn.now) (Err c.in-Err-look_up_within.stop)
    (λ live. c.in-Err-look_up_within.ensures.cause clean (shows.schema live) (tables_of b) (shows.holds live) rows)

pub returns-in-Ok-New-clause-searched : goal.returns-in-Ok-New-clause-searched
returns-in-Ok-New-clause-searched g c clean b shows same =
    let mid : HasCleanDisk (state g.S.Store c.look_up_within.new.tx.conn.now) = omega (arith, c.enter.ensures.silent.survives.clean, clean) in
    let live = c.in-Ok-New.ensures.looks.live mid in
    let rows = rw (c.bytes.ensures.value, c.in-Ok-New.field-0-is) at (c.in-Ok-New.ensures.found mid (shows.schema live) (tables_of b) (shows.holds live)) in
    c.enter.ensures.searched b same (is_new c.args.reference.now b rows)

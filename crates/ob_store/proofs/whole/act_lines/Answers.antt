use Rattle.std.proofs.Common.{◌≡◌, ◌≤◌, ◌∙◌, ◌+◌, Ok, Err, inl, inr, refl, sym, subst, arith}
use Rattle.sqlite.specs.Held.{state}
use Rattle.sqlite.specs.State.{HasCleanDisk}
use Rattle.ob_sql_rows.proofs.Failing.{failed_after}
use Rattle.ob_sql_rows.proofs.Silence.{silent_same, silent_then}
use Rattle.ob_store.proofs.Giving.{turn_first, turn_halts, turn_last, turn_next, turn_starved}
use Rattle.ob_store.proofs.Within.{shows_after, whole_after}
use Rattle.ob_store.proofs.whole.act_lines.Goals as goal

pub each-init : goal.each-init
each-init g c =
    let old = state g.S.Store c.args.tx.now.conn.now in (
      refl,
      silent_same old,
      (let e : 0 ≤ 0 = omega arith in e),
      λ clean. c.requires.inside,
      turn_first g.L.Lines.gives g.T.Timeline.bound old c.args.lines.now c.args.first c.args.book.now.state c.args.book.now.searches,
    )

pub each-preserved : goal.each-preserved
each-preserved g c =
    let old = state g.S.Store c.args.tx.now.conn.now in
    let mid = state g.S.Store c.each.tx.conn.now in
    let new = state g.S.Store c.act_line.new.tx.conn.now in
    let step = c.act_line.ensures in
    let was = c.each.invariant in (
      step.same_reference ∙ was.0,
      silent_then old mid new was.1 step.silent,
      (let e : c.each.added + c.count_of-added.result ≤ c.each.place + 1 = omega (arith, was.2, c.count_of-added.ensures.few) in e),
      c.in-Ok.ensures.inside,
      turn_next g.L.Lines.gives g.T.Timeline.bound old mid new c.args.lines.now c.each.lines c.args.first c.each.line c.args.book.now.state c.each.book.state c.act_line.new.book.state c.args.book.now.searches c.each.book.searches c.act_line.new.book.searches c.each.place c.each.added was.4
          was.1 step.silent was.3 c.in-Ok.is_new c.count_of-added.result c.count_of-added.ensures.value c.in-Ok.ensures.tries c.in-Ok.ensures.searched c.next.new.self c.in-Ok-Some.next (rw c.in-Ok-Some.field-0-is at c.in-Ok-Some.ensures.given),
    )

-- ---- a line was refused, memory was or the store failed
pub returns-in-Err-clause-same_reference : goal.returns-in-Err-clause-same_reference
returns-in-Err-clause-same_reference g c = c.act_line.ensures.same_reference ∙ c.each.invariant.0

pub returns-in-Err-clause-silent : goal.returns-in-Err-clause-silent
returns-in-Err-clause-silent g c =
    silent_then (state g.S.Store c.args.tx.now.conn.now) (state g.S.Store c.each.tx.conn.now) (state g.S.Store c.act_line.new.tx.conn.now) c.each.invariant.1 c.act_line.ensures.silent

pub returns-in-Err-clause-over : goal.returns-in-Err-clause-over
returns-in-Err-clause-over g c =
    let old = state g.S.Store c.args.tx.now.conn.now in
    let mid = state g.S.Store c.each.tx.conn.now in
    let new = state g.S.Store c.act_line.new.tx.conn.now in
    let was = c.each.invariant in
    turn_halts g.L.Lines.gives g.T.Timeline.bound old mid new c.args.lines.now c.each.lines c.args.first c.each.line c.args.book.now.state c.each.book.state c.act_line.new.book.state c.args.book.now.searches c.each.book.searches c.act_line.new.book.searches c.each.place c.each.added was.4
    was.1 c.act_line.ensures.silent was.3 c.in-Err.stop c.in-Err.ensures.tries

pub returns-in-Err-clause-cause : goal.returns-in-Err-clause-cause
returns-in-Err-clause-cause g c clean b shows whole same store =
    let old = state g.S.Store c.args.tx.now.conn.now in
    let mid = state g.S.Store c.each.tx.conn.now in
    let new = state g.S.Store c.act_line.new.tx.conn.now in
    let step = c.act_line.ensures in
    let was = c.each.invariant in
    let early : HasCleanDisk mid = omega (arith, step.silent.survives.clean, clean) in
    let turn = (was.4.tries early b shows same).turn in
    let now = shows_after old mid b turn.book was.1 early turn.leads shows (was.3 early) turn.reached turn.valid in
    failed_after old mid new _ _ was.1.survives early step.silent.survives
    (c.in-Err.ensures.cause clean turn.book now (whole_after old mid b turn.book was.1 early turn.leads shows whole) turn.memory store)

-- ---- it was the last
pub returns-in-Ok-None-clause-same_reference : goal.returns-in-Ok-None-clause-same_reference
returns-in-Ok-None-clause-same_reference g c = c.act_line.ensures.same_reference ∙ c.each.invariant.0

pub returns-in-Ok-None-clause-silent : goal.returns-in-Ok-None-clause-silent
returns-in-Ok-None-clause-silent g c =
    silent_then (state g.S.Store c.args.tx.now.conn.now) (state g.S.Store c.each.tx.conn.now) (state g.S.Store c.act_line.new.tx.conn.now) c.each.invariant.1 c.act_line.ensures.silent

pub returns-in-Ok-None-clause-live : goal.returns-in-Ok-None-clause-live
returns-in-Ok-None-clause-live g c clean =
    let step = c.act_line.ensures in
    let early : HasCleanDisk (state g.S.Store c.each.tx.conn.now) = omega (arith, step.silent.survives.clean, clean) in
    (c.each.invariant.1.kept early).was_open (c.in-Ok.ensures.live clean)

pub returns-in-Ok-None-clause-over : goal.returns-in-Ok-None-clause-over
returns-in-Ok-None-clause-over g c =
    let old = state g.S.Store c.args.tx.now.conn.now in
    let mid = state g.S.Store c.each.tx.conn.now in
    let new = state g.S.Store c.act_line.new.tx.conn.now in
    let was = c.each.invariant in
    turn_last g.L.Lines.gives g.T.Timeline.bound old mid new c.args.lines.now c.each.lines c.args.first c.each.line c.args.book.now.state c.each.book.state c.act_line.new.book.state c.args.book.now.searches c.each.book.searches c.act_line.new.book.searches c.each.place c.each.added was.4
    was.1 c.act_line.ensures.silent was.3 c.in-Ok.is_new c.count_of-added.result c.count_of-added.ensures.value c.in-Ok.ensures.tries c.in-Ok.ensures.searched c.next.new.self (rw c.in-Ok-None.field-0-is at c.in-Ok-None.ensures.given)
    (let e : c.each.added + c.count_of-added.result ≤ c.each.place + 1 = omega (arith, was.2, c.count_of-added.ensures.few) in e)

-- ---- memory was refused for the next one
pub returns-in-Err-next-clause-same_reference : goal.returns-in-Err-next-clause-same_reference
returns-in-Err-next-clause-same_reference g c = c.act_line.ensures.same_reference ∙ c.each.invariant.0

pub returns-in-Err-next-clause-silent : goal.returns-in-Err-next-clause-silent
returns-in-Err-next-clause-silent g c =
    silent_then (state g.S.Store c.args.tx.now.conn.now) (state g.S.Store c.each.tx.conn.now) (state g.S.Store c.act_line.new.tx.conn.now) c.each.invariant.1 c.act_line.ensures.silent

pub returns-in-Err-next-clause-over : goal.returns-in-Err-next-clause-over
returns-in-Err-next-clause-over g c =
    let old = state g.S.Store c.args.tx.now.conn.now in
    let mid = state g.S.Store c.each.tx.conn.now in
    let new = state g.S.Store c.act_line.new.tx.conn.now in
    let was = c.each.invariant in
    turn_starved g.L.Lines.gives g.T.Timeline.bound old mid new c.args.lines.now c.each.lines c.args.first c.each.line c.args.book.now.state c.each.book.state c.act_line.new.book.state c.args.book.now.searches c.each.book.searches c.act_line.new.book.searches c.each.place c.each.added was.4
    was.1 c.act_line.ensures.silent was.3 c.next.new.self (c.each.place + 1) c.in-Err-next.fault (omega arith) (inr (c.in-Err-next.fault, c.in-Err-next.ensures.given))

-- ---- more lines than can be counted
pub returns-clause-over : goal.returns-clause-over
returns-clause-over g c =
    let old = state g.S.Store c.args.tx.now.conn.now in
    let mid = state g.S.Store c.each.tx.conn.now in
    let was = c.each.invariant in
    turn_starved g.L.Lines.gives g.T.Timeline.bound old mid mid c.args.lines.now c.each.lines c.args.first c.each.line c.args.book.now.state c.each.book.state c.each.book.state c.args.book.now.searches c.each.book.searches c.each.book.searches c.each.place c.each.added was.4
    was.1 (silent_same mid) was.3 c.each.lines _ _ (omega arith) (inl refl)

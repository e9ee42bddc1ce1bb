use Rattle.std.proofs.Common.{◌≡◌, [], ◌∷◌, ◌++◌, length, map, sym, ap, subst, ◌∙◌, arith}
use Rattle.std.proofs.lemmas.List.{length-append}
use Rattle.sqlite.specs.Effect.{Database}
use Rattle.sqlite.specs.State.{HasCleanDisk}
use Rattle.sqlite.specs.Held.{state}
use Rattle.sqlite.proofs.Callers.{unchanged_then}
use Rattle.ob_sql_rows.proofs.Failing.{failed_after}
use Rattle.ob_store.specs.Keeping.{KeepsBook}
use Rattle.ob_sql_read.proofs.Listing.{still_then}
use Rattle.ob_record.specs.Tables.{tables_of}
use Rattle.ob_store.specs.MovingOut.{Numbered, ComesNext, TakesAll, all_moves, row_of_move}
use Rattle.ob_store.proofs.Handing.{front_and, front_of, given_more, takes_more, whole}
use Rattle.ob_store.proofs.moving.hand_rows.Goals as goal

pub returns-in-Err-take-clause-sink : goal.returns-in-Err-take-clause-sink
returns-in-Err-take-clause-sink g c =
    let was = c.moves.invariant.4 in
    (was.0, c.moves.sink, was.1, (c.in-Ok-Some.cmd, c.in-Ok-Some.it), rw c.in-Err-take.is at c.take.ensures)

pub returns-in-Err-take-clause-hands : goal.returns-in-Err-take-clause-hands
returns-in-Err-take-clause-hands g c clean b keeps live given =
    let first = c.args.rows.now.conn.now in
    let old = state g.S.Store first in
    let mid = state g.S.Store c.moves.rows.conn.now in
    let next = c.next_moved.new.rows.conn.now in
    let x : Numbered = (c.in-Ok-Some.cmd, c.in-Ok-Some.it) in
    let was = c.moves.invariant.4 in
    let early : HasCleanDisk mid = omega (arith, c.next_moved.ensures.survives.clean, clean) in
    let start : HasCleanDisk old = omega (arith, c.moves.invariant.1.clean, early) in
    let so = was.3 early live in
    let has = (keeps.kept.settled start live).schema in
    let there = ap (λ (d : Database). d.schema) so.0.0.now_is ∙ has in
    let comes = subst (λ f. ComesNext g.S.Store f next (map row_of_move was.0)) c.in-Ok-Some.field-0-is (c.in-Ok-Some.ensures.next clean there (map row_of_move was.0) (so.1 has given)) in
    let kept = c.next_moved.ensures.kept (tables_of b) (c.moves.invariant.3 (tables_of b) keeps.kept) in
    let more = front_and g.S.Store b next kept clean (c.in-Ok-Some.ensures.same clean).0.is_open was.0 x comes in
    record { front = was.0; it = x; rest = more.0; parts = more.1; mid = c.moves.sink; took = was.1; failed = rw c.in-Err-take.is at c.take.ensures }

pub returns-in-Ok-None-clause-hands : goal.returns-in-Ok-None-clause-hands
returns-in-Ok-None-clause-hands g c clean b keeps live given =
    let old = state g.S.Store c.args.rows.now.conn.now in
    let mid = state g.S.Store c.moves.rows.conn.now in
    let next = c.next_moved.new.rows.conn.now in
    let was = c.moves.invariant.4 in
    let early : HasCleanDisk mid = omega (arith, c.next_moved.ensures.survives.clean, clean) in
    let start : HasCleanDisk old = omega (arith, c.moves.invariant.1.clean, early) in
    let so = was.3 early live in
    let has = (keeps.kept.settled start live).schema in
    let there = ap (λ (d : Database). d.schema) so.0.0.now_is ∙ has in
    let lists = subst (λ f. ComesNext g.S.Store f next (map row_of_move was.0)) c.in-Ok-None.field-0-is (c.in-Ok-None.ensures.next clean there (map row_of_move was.0) (so.1 has given)) in
    let kept = c.next_moved.ensures.kept (tables_of b) (c.moves.invariant.3 (tables_of b) keeps.kept) in
    let all : all_moves b ≡ was.0 = whole b (state g.S.Store next) was.0 kept clean (c.in-Ok-None.ensures.same clean).0.is_open lists in
    (subst (λ xs. TakesAll g.V.MoveSink.takes c.args.sink.now xs c.moves.sink) (sym all) was.1, was.2 ∙ ap length (sym all))

pub returns-in-Err-clause-hands : goal.returns-in-Err-clause-hands
returns-in-Err-clause-hands g c clean b keeps live given =
    let old = state g.S.Store c.args.rows.now.conn.now in
    let mid = state g.S.Store c.moves.rows.conn.now in
    let was = c.moves.invariant.4 in
    let early : HasCleanDisk mid = omega (arith, c.next_moved.ensures.survives.clean, clean) in
    let start : HasCleanDisk old = omega (arith, c.moves.invariant.1.clean, early) in
    let so = was.3 early live in
    let has = (keeps.kept.settled start live).schema in
    let kept = c.moves.invariant.3 (tables_of b) keeps.kept in
    let some = front_of g.S.Store b c.moves.rows.conn.now kept early so.0.0.is_open was.0 (so.1 has given) in
    record { front = was.0; rest = some.0; parts = some.1; took = was.1 }

pub returns-clause-hands : goal.returns-clause-hands
returns-clause-hands g c clean b keeps live given =
    let old = state g.S.Store c.args.rows.now.conn.now in
    let was = c.moves.invariant.4 in
    let start : HasCleanDisk old = omega (arith, c.moves.invariant.1.clean, clean) in
    let so = was.3 clean live in
    let has = (keeps.kept.settled start live).schema in
    let kept = c.moves.invariant.3 (tables_of b) keeps.kept in
    let some = front_of g.S.Store b c.moves.rows.conn.now kept clean so.0.0.is_open was.0 (so.1 has given) in
    record { front = was.0; rest = some.0; parts = some.1; took = was.1 }

pub moves-preserved : goal.moves-preserved
moves-preserved g c =
    let old = state g.S.Store c.args.rows.now.conn.now in
    let mid = state g.S.Store c.moves.rows.conn.now in
    let next = c.next_moved.new.rows.conn.now in
    let step = c.next_moved.ensures in
    let x : Numbered = (c.in-Ok-Some.cmd, c.in-Ok-Some.it) in
    let was = c.moves.invariant.4 in (
      step.same_reference ∙ c.moves.invariant.0,
      still_then old mid (state g.S.Store next) c.moves.invariant.1 step.survives,
      λ idle. step.mode (c.moves.invariant.2 idle),
      λ t keeps. step.kept t (c.moves.invariant.3 t keeps),
      (
        was.0 ++ x ∷ [],
        takes_more g.V.MoveSink.takes c.args.sink.now c.moves.sink c.take.new.self was.0 x was.1 (rw c.in-Ok.is at c.take.ensures),
        omega (arith, was.2, length-append was.0 (x ∷ [])),
        λ clean live.
            let early : HasCleanDisk mid = omega (arith, step.survives.clean, clean) in
            let so = was.3 early live in (
              unchanged_then old mid (state g.S.Store next) so.0 (c.in-Ok-Some.ensures.same clean),
              λ has given.
                  let there = ap (λ (d : Database). d.schema) so.0.0.now_is ∙ has in
                  given_more g.S.Store next was.0 x (subst (λ f. ComesNext g.S.Store f next (map row_of_move was.0)) c.in-Ok-Some.field-0-is (c.in-Ok-Some.ensures.next clean there (map row_of_move was.0) (so.1 has given))),
            ),
      ),
    )

pub returns-in-Err-clause-cause : goal.returns-in-Err-clause-cause
returns-in-Err-clause-cause g c clean b few keeps live given store =
    let old = state g.S.Store c.args.rows.now.conn.now in
    let mid = state g.S.Store c.moves.rows.conn.now in
    let new = state g.S.Store c.next_moved.new.rows.conn.now in
    let was = c.moves.invariant.4 in
    let early : HasCleanDisk mid = omega (arith, c.next_moved.ensures.survives.clean, clean) in
    let start : HasCleanDisk old = omega (arith, c.moves.invariant.1.clean, early) in
    let so = was.3 early live in
    let has = (keeps.kept.settled start live).schema in
    let kept : KeepsBook mid b = record { kept = c.moves.invariant.3 (tables_of b) keeps.kept; reached = keeps.reached; valid = keeps.valid } in
    failed_after old mid new _ _ c.moves.invariant.1 early c.next_moved.ensures.survives (c.in-Err.ensures.cause clean b few kept so.0.0.is_open was.0 (so.1 has given) store)

pub returns-clause-cause : goal.returns-clause-cause
returns-clause-cause g c clean b few keeps live given store =
    let old = state g.S.Store c.args.rows.now.conn.now in
    let was = c.moves.invariant.4 in
    let start : HasCleanDisk old = omega (arith, c.moves.invariant.1.clean, clean) in
    let so = was.3 clean live in
    let has = (keeps.kept.settled start live).schema in
    let kept = c.moves.invariant.3 (tables_of b) keeps.kept in
    let some = front_of g.S.Store b c.moves.rows.conn.now kept clean so.0.0.is_open was.0 (so.1 has given) in
    absurd (omega (arith, was.2, few.few, ap length some.1, length-append was.0 some.0, c.moves-test.false))

use Rattle.std.proofs.Common.{List, [], ◌<◌, ◌++◌, length, take, sym, subst, ap, ◌∙◌, arith}
use Rattle.std.proofs.lemmas.List.{length-map, take_all}
use Rattle.sqlite.specs.Given.{HasGiven}
use Rattle.sqlite.specs.Order.{Row}
use Rattle.sqlite.specs.Effect.{Database}
use Rattle.sqlite.specs.State.{HasCleanDisk}
use Rattle.sqlite.specs.Held.{state}
use Rattle.sqlite.proofs.Callers.{unchanged_then}
use Rattle.ob_record.specs.Tables.{rows_of_moves}
use Rattle.ob_sql_rows.specs.Steps.{IsStoreFault}
use Rattle.ob_sql_read.proofs.Listing.{still_then}
use Rattle.ob_sql_read.proofs.Passing.{clean_before, no_value, of_error, unchanged_after}
use Rattle.ob_sql_read.specs.Moves.{moved_listing}
use Rattle.ob_sql_read.proofs.Rowing.{move_on, move_off, row_of}
use Rattle.ob_sql_read.proofs.Failing.{cause_of_error}
use Rattle.ob_sql_rows.proofs.Failing.{failed_after}
use Rattle.ob_sql_read.proofs.moves.matches.Goals as goal

pub returns-then-not-branch-clause-goes : goal.returns-then-not-branch-clause-goes
returns-then-not-branch-clause-goes g c late live v has given it =
    let mid = state g.S.Store c.moves.rows.conn.now in
    let new = c.next_is.new.rows.conn.now in
    let step = c.next_is.ensures in
    let low : c.moves.at < length c.args.moves.now = omega (arith, c.moves-test.true) in
    let early : HasCleanDisk mid = omega (arith, step.survives.clean, late) in
    let was = c.moves.invariant.3 early in
    let there = ap (λ (d : Database). d.schema) (was.0 live).0.now_is ∙ has in
    move_off g.S.Store new c.args.no c.args.moves.now c.moves.at _ given c.in_ok-next_is.field-0 low
    (c.in_ok-next_is.ensures.goes late v there (given ++ take c.moves.at (rows_of_moves c.args.no c.args.moves.now)) (was.1 live v has given it)) c.if-not-branch.true

pub moves-preserved : goal.moves-preserved
moves-preserved g c =
    let old = state g.S.Store c.args.rows.now.conn.now in
    let mid = state g.S.Store c.moves.rows.conn.now in
    let new = c.next_is.new.rows.conn.now in
    let step = c.next_is.ensures in
    let low : c.moves.at < length c.args.moves.now = omega (arith, c.moves-test.true) in (
      step.same_reference ∙ c.moves.invariant.0,
      still_then old mid (state g.S.Store new) c.moves.invariant.1 step.survives,
      λ idle. step.mode (c.moves.invariant.2 idle),
      λ late.
          let early : HasCleanDisk mid = omega (arith, step.survives.clean, late) in
          let was = c.moves.invariant.3 early in (
            λ live. unchanged_then old mid (state g.S.Store new) (was.0 live) (c.in_ok-next_is.ensures.same late),
            λ live v has given it.
                let there = ap (λ (d : Database). d.schema) (was.0 live).0.now_is ∙ has in
                move_on g.S.Store new c.args.no c.args.moves.now c.moves.at _ given c.in_ok-next_is.field-0 low
                (c.in_ok-next_is.ensures.goes late v there (given ++ take c.moves.at (rows_of_moves c.args.no c.args.moves.now)) (was.1 live v has given it)) c.if-not-branch.false,
          ),
      λ v t keeps. step.kept v t (c.moves.invariant.4 v t keeps),
    )

pub returns-in_err-next_is-clause-same_reference : goal.returns-in_err-next_is-clause-same_reference
returns-in_err-next_is-clause-same_reference g c = c.next_is.ensures.same_reference ∙ c.moves.invariant.0

pub returns-in_err-next_is-clause-survives : goal.returns-in_err-next_is-clause-survives
returns-in_err-next_is-clause-survives g c = still_then (state g.S.Store c.args.rows.now.conn.now) (state g.S.Store c.moves.rows.conn.now) (state g.S.Store c.next_is.new.rows.conn.now) c.moves.invariant.1 c.next_is.ensures.survives

pub returns-in_err-next_is-clause-kept : goal.returns-in_err-next_is-clause-kept
returns-in_err-next_is-clause-kept g c v t keeps = c.next_is.ensures.kept v t (c.moves.invariant.4 v t keeps)

pub returns-in_err-next_is-clause-mode : goal.returns-in_err-next_is-clause-mode
returns-in_err-next_is-clause-mode g c idle = c.next_is.ensures.mode (c.moves.invariant.2 idle)

pub returns-in_err-next_is-clause-faults : goal.returns-in_err-next_is-clause-faults
returns-in_err-next_is-clause-faults g c = of_error c.from_residual.result IsStoreFault c.from_residual.ensures.1 (λ stop is. subst IsStoreFault (sym is) c.in_err-next_is.ensures.faults)

pub returns-in_err-next_is-clause-same : goal.returns-in_err-next_is-clause-same
returns-in_err-next_is-clause-same g c late = no_value c.from_residual.result _ c.from_residual.ensures.0

pub returns-in_err-next_is-clause-goes : goal.returns-in_err-next_is-clause-goes
returns-in_err-next_is-clause-goes g c late = no_value c.from_residual.result _ c.from_residual.ensures.0

pub returns-then-not-branch-clause-same_reference : goal.returns-then-not-branch-clause-same_reference
returns-then-not-branch-clause-same_reference g c = c.next_is.ensures.same_reference ∙ c.moves.invariant.0

pub returns-then-not-branch-clause-survives : goal.returns-then-not-branch-clause-survives
returns-then-not-branch-clause-survives g c = still_then (state g.S.Store c.args.rows.now.conn.now) (state g.S.Store c.moves.rows.conn.now) (state g.S.Store c.next_is.new.rows.conn.now) c.moves.invariant.1 c.next_is.ensures.survives

pub returns-then-not-branch-clause-kept : goal.returns-then-not-branch-clause-kept
returns-then-not-branch-clause-kept g c v t keeps = c.next_is.ensures.kept v t (c.moves.invariant.4 v t keeps)

pub returns-then-not-branch-clause-mode : goal.returns-then-not-branch-clause-mode
returns-then-not-branch-clause-mode g c idle = c.next_is.ensures.mode (c.moves.invariant.2 idle)

pub returns-then-not-branch-clause-same : goal.returns-then-not-branch-clause-same
returns-then-not-branch-clause-same g c late =
    let mid = state g.S.Store c.moves.rows.conn.now in
    let new = state g.S.Store c.next_is.new.rows.conn.now in
    unchanged_after (state g.S.Store c.args.rows.now.conn.now) mid new (c.moves.invariant.3 (clean_before mid new c.next_is.ensures.survives late)).0 (c.in_ok-next_is.ensures.same late)

pub returns-clause-same_reference : goal.returns-clause-same_reference
returns-clause-same_reference g c = c.moves.invariant.0

pub returns-clause-survives : goal.returns-clause-survives
returns-clause-survives g c = c.moves.invariant.1

pub returns-clause-kept : goal.returns-clause-kept
returns-clause-kept g c = c.moves.invariant.4

pub returns-clause-mode : goal.returns-clause-mode
returns-clause-mode g c = c.moves.invariant.2

pub returns-clause-same : goal.returns-clause-same
returns-clause-same g c late = (c.moves.invariant.3 late).0

pub returns-clause-goes : goal.returns-clause-goes
returns-clause-goes g c late live v has given it =
    let rows = rows_of_moves c.args.no c.args.moves.now in
    let all = take_all c.moves.at rows (omega (arith, length-map c.args.moves.now (row_of c.args.no), c.moves-test.false)) in
    subst (λ (l : List Row). HasGiven g.S.Store moved_listing.text [] c.moves.rows.conn.now (given ++ l)) all ((c.moves.invariant.3 late).1 live v has given it)

pub returns-in_err-next_is-clause-cause : goal.returns-in_err-next_is-clause-cause
returns-in_err-next_is-clause-cause g c late live v has given it =
    let old = state g.S.Store c.args.rows.now.conn.now in
    let mid = state g.S.Store c.moves.rows.conn.now in
    let new = state g.S.Store c.next_is.new.rows.conn.now in
    let early : HasCleanDisk mid = clean_before mid new c.next_is.ensures.survives late in
    let was = c.moves.invariant.3 early in
    let there = ap (λ (d : Database). d.schema) (was.0 live).0.now_is ∙ has in
    cause_of_error old new c.from_residual.result _ c.from_residual.ensures.1
    (λ store. failed_after old mid new _ _ c.moves.invariant.1 early c.next_is.ensures.survives
    (c.in_err-next_is.ensures.cause late v there (given ++ take c.moves.at (rows_of_moves c.args.no c.args.moves.now)) (was.1 live v has given it) store))

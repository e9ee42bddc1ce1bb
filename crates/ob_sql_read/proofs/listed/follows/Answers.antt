use Rattle.std.proofs.Common.{List, [], ◌<◌, ◌++◌, length, take, ap, subst, ◌∙◌, arith}
use Rattle.std.proofs.lemmas.List.{take_all}
use Rattle.sqlite.specs.Given.{HasGiven}
use Rattle.sqlite.specs.Order.{Row}
use Rattle.sqlite.specs.Effect.{Database}
use Rattle.sqlite.specs.State.{HasCleanDisk}
use Rattle.sqlite.specs.Held.{state}
use Rattle.sqlite.proofs.Callers.{unchanged_then}
use Rattle.ob_sql_rows.specs.Listings.{select_of}
use Rattle.ob_sql_read.specs.Parts.{listing_of, standing}
use Rattle.ob_sql_read.proofs.Listing.{still_then}
use Rattle.ob_sql_read.proofs.Places.{place_on, place_off}
use Rattle.ob_sql_read.proofs.Failing.{cause_of_error}
use Rattle.ob_sql_rows.proofs.Failing.{failed_after}
use Rattle.ob_sql_read.proofs.listed.follows.Goals as goal

pub returns-then-not-branch-clause-goes : goal.returns-then-not-branch-clause-goes
returns-then-not-branch-clause-goes g c late live v own has given it =
    let mid = state g.S.Store c.places.rows.conn.now in
    let new = c.goes_on.new.rows.conn.now in
    let ps = g.L.Listed.places c.args.listed.now in
    let step = c.goes_on.ensures in
    let low : c.places.at < length ps = omega (arith, c.places-test.true) in
    let early : HasCleanDisk mid = omega (arith, step.survives.clean, late) in
    let was = c.places.invariant.3 early in
    let there = ap (λ (d : Database). d.schema) (was.0 live).0.now_is ∙ has in
    place_off g.S.Store (listing_of g.L.Listed.table) new ps c.places.at _ given c.in_ok-goes_on.field-0 low
    (c.in_ok-goes_on.ensures.goes late v own there (given ++ standing (take c.places.at ps)) (was.1 live v own has given it)) c.if-not-branch.true

pub places-preserved : goal.places-preserved
places-preserved g c =
    let old = state g.S.Store c.args.rows.now.conn.now in
    let mid = state g.S.Store c.places.rows.conn.now in
    let new = c.goes_on.new.rows.conn.now in
    let ps = g.L.Listed.places c.args.listed.now in
    let step = c.goes_on.ensures in
    let low : c.places.at < length ps = omega (arith, c.places-test.true) in (
      step.same_reference ∙ c.places.invariant.0,
      still_then old mid (state g.S.Store new) c.places.invariant.1 step.survives,
      λ idle. step.mode (c.places.invariant.2 idle),
      λ late.
          let early : HasCleanDisk mid = omega (arith, step.survives.clean, late) in
          let was = c.places.invariant.3 early in (
            λ live. unchanged_then old mid (state g.S.Store new) (was.0 live) (c.in_ok-goes_on.ensures.same late (was.0 live).0.is_open),
            λ live v own has given it.
                let there = ap (λ (d : Database). d.schema) (was.0 live).0.now_is ∙ has in
                place_on g.S.Store (listing_of g.L.Listed.table) new ps c.places.at _ given c.in_ok-goes_on.field-0 low
                (c.in_ok-goes_on.ensures.goes late v own there (given ++ standing (take c.places.at ps)) (was.1 live v own has given it)) c.if-not-branch.false,
          ),
      λ v t keeps. step.kept v t (c.places.invariant.4 v t keeps),
    )

pub returns-clause-goes : goal.returns-clause-goes
returns-clause-goes g c late live v own has given it =
    let ps = g.L.Listed.places c.args.listed.now in
    let all = take_all c.places.at ps (omega (arith, c.places-test.false)) in
    subst (λ (rows : List Row). HasGiven g.S.Store (select_of g.L.Listed.table) [] c.places.rows.conn.now (given ++ rows)) (ap standing all) ((c.places.invariant.3 late).1 live v own has given it)

pub returns-in_err-goes_on-clause-cause : goal.returns-in_err-goes_on-clause-cause
returns-in_err-goes_on-clause-cause g c late live v own has given it =
    let old = state g.S.Store c.args.rows.now.conn.now in
    let mid = state g.S.Store c.places.rows.conn.now in
    let new = state g.S.Store c.goes_on.new.rows.conn.now in
    let early : HasCleanDisk mid = omega (arith, c.goes_on.ensures.survives.clean, late) in
    let was = c.places.invariant.3 early in
    let there = ap (λ (d : Database). d.schema) (was.0 live).0.now_is ∙ has in
    cause_of_error old new c.from_residual.result _ c.from_residual.ensures.1
    (λ store. failed_after old mid new _ _ c.places.invariant.1 early c.goes_on.ensures.survives
    (c.in_err-goes_on.ensures.cause late v own there (given ++ standing (take c.places.at (g.L.Listed.places c.args.listed.now))) (was.1 live v own has given it) store))

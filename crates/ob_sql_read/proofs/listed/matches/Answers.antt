use Rattle.std.proofs.Common.{[], true≢false, sym, ap, ◌∙◌, arith}
use Rattle.sqlite.specs.Effect.{Database}
use Rattle.sqlite.specs.State.{HasCleanDisk}
use Rattle.sqlite.specs.Held.{state}
use Rattle.ob_sql_rows.specs.Listings.{select_of}
use Rattle.ob_sql_rows.specs.Versions.{schema_of}
use Rattle.ob_sql_read.specs.Parts.{listing_of, standing}
use Rattle.ob_sql_read.proofs.Listing.{goes_given}
use Rattle.ob_sql_read.proofs.Places.{went_off, ended, if_both}
use Rattle.ob_sql_read.proofs.Selects.{is_listing}
use Rattle.ob_sql_read.proofs.Failing.{answered_over, cause_of_error}
use Rattle.ob_sql_rows.proofs.Failing.{cause_after}
use Rattle.ob_sql_read.proofs.listed.matches.Goals as goal

pub returns-then-not-branch-clause-holds : goal.returns-then-not-branch-clause-holds
returns-then-not-branch-clause-holds g c late live v own has it =
    let start = c.args.rows.now.conn.now in
    let new = c.follows.new.rows.conn.now in
    let t = g.L.Listed.table in
    let expected = standing (g.L.Listed.places c.args.listed.now) in
    let same = c.in_ok-follows.ensures.same late live in
    let goes = c.in_ok-follows.ensures.goes late live v own has [] it in (
      λ e. absurd (true≢false (sym e)),
      λ shows. absurd (went_off g.S.Store t expected c.requires.rises start new same.0.now_is c.in_ok-follows.field-0 c.if-not-branch.true goes shows),
    )

pub returns-clause-holds : goal.returns-clause-holds
returns-clause-holds g c late =
    let start = c.args.rows.now.conn.now in
    let mid = c.follows.new.rows.conn.now in
    let new = c.is_over.new.rows.conn.now in
    let t = g.L.Listed.table in
    let l = listing_of t in
    let expected = standing (g.L.Listed.places c.args.listed.now) in
    let early : HasCleanDisk (state g.S.Store mid) = omega (arith, c.is_over.ensures.survives.clean, late) in
    if_both c.is_over.result (c.is_over.ensures.over late) (c.is_over.ensures.same late) (λ over ends later live v own has it.
    let same = c.in_ok-follows.ensures.same early live in
    let there = ap (λ (d : Database). d.schema) same.0.now_is ∙ has in
    let given = goes_given g.S.Store l mid [] expected c.in_ok-follows.field-0 (c.in_ok-follows.ensures.goes early live v own has [] it) c.if-not-branch.false in
    ended g.S.Store t expected c.requires.rises start new (later.0.now_is ∙ same.0.now_is) over (ends (schema_of v) l (is_listing v t own) there expected given))

pub returns-in_err-follows-clause-cause : goal.returns-in_err-follows-clause-cause
returns-in_err-follows-clause-cause g c late live v own has it =
    cause_of_error (state g.S.Store c.args.rows.now.conn.now) (state g.S.Store c.follows.new.rows.conn.now) c.from_residual.result _ c.from_residual.ensures.1
    (c.in_err-follows.ensures.cause late live v own has [] it)

pub returns-clause-cause : goal.returns-clause-cause
returns-clause-cause g c late live v own has it =
    let start = c.args.rows.now.conn.now in
    let mid = c.follows.new.rows.conn.now in
    let new = c.is_over.new.rows.conn.now in
    let t = g.L.Listed.table in
    let expected = standing (g.L.Listed.places c.args.listed.now) in
    let early : HasCleanDisk (state g.S.Store mid) = omega (arith, c.is_over.ensures.survives.clean, late) in
    let same = c.in_ok-follows.ensures.same early live in
    let there = ap (λ (d : Database). d.schema) same.0.now_is ∙ has in
    let given = goes_given g.S.Store (listing_of t) mid [] expected c.in_ok-follows.field-0 (c.in_ok-follows.ensures.goes early live v own has [] it) c.if-not-branch.false in
    cause_after (state g.S.Store start) (state g.S.Store mid) (state g.S.Store new) _ _ c.is_over.result c.follows.ensures.survives early c.is_over.ensures.survives
    (c.is_over.ensures.cause late (select_of t) (answered_over (listing_of t) (is_listing v t own) there) expected given)

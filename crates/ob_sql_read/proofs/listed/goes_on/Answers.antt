use Rattle.std.proofs.Common.{◌≡◌, [], None, Some, slice_index_or, sym, subst, ◌∙◌}
use Rattle.sqlite.specs.Given.{GivesOn, row_if}
use Rattle.ob_sql_rows.specs.Listings.{select_of}
use Rattle.ob_sql_read.specs.Parts.{listing_of}
use Rattle.ob_sql_read.proofs.Places.{goes_on, ends_off}
use Rattle.sqlite.specs.Held.{state}
use Rattle.ob_sql_read.proofs.Failing.{answered_over, cause_of_error}
use Rattle.ob_sql_read.proofs.Selects.{is_listing}
use Rattle.ob_sql_read.proofs.listed.goes_on.Goals as goal

pub returns-in-Some-clause-goes : goal.returns-in-Some-clause-goes
returns-in-Some-clause-goes g c clean v own has given it =
    let old = c.args.rows.now.conn.now in
    let new = c.advance.new.rows.conn.now in
    let t = g.L.Listed.table in
    let at : row_if c.advance.new.rows.has_row new ≡ Some c.in-Some.row.now = sym (rw c.in-Some.is at c.get.ensures) in
    let more = subst (GivesOn g.S.Store (select_of t) [] old new given) at (c.in_ok-advance.ensures.goes clean (select_of t) [] given it) in
    goes_on g.S.Store v t own old new has (c.in_ok-advance.ensures.same clean) given c.is_row.result c.in-Some.row.now
    (slice_index_or (g.L.Listed.places c.args.listed.now) c.args.at None) (sym c.if-not-has_row.false ∙ c.has_row.ensures) c.is_row.ensures more

pub returns-in-None-clause-goes : goal.returns-in-None-clause-goes
returns-in-None-clause-goes g c clean v own has given it =
    let old = c.args.rows.now.conn.now in
    let new = c.advance.new.rows.conn.now in
    let t = g.L.Listed.table in
    let at : row_if c.advance.new.rows.has_row new ≡ None = sym (rw c.in-None.is at c.get.ensures) in
    let shown = subst (GivesOn g.S.Store (select_of t) [] old new given) at (c.in_ok-advance.ensures.goes clean (select_of t) [] given it) in
    ends_off g.S.Store v t own old new has (c.in_ok-advance.ensures.same clean) given
    (slice_index_or (g.L.Listed.places c.args.listed.now) c.args.at None) (sym c.if-not-has_row.false ∙ c.has_row.ensures) shown

pub returns-in_err-advance-clause-cause : goal.returns-in_err-advance-clause-cause
returns-in_err-advance-clause-cause g c late v own has given it =
    let t = g.L.Listed.table in
    cause_of_error (state g.S.Store c.args.rows.now.conn.now) (state g.S.Store c.advance.new.rows.conn.now) c.from_residual.result _ c.from_residual.ensures.1
    (c.in_err-advance.ensures.cause late (select_of t) (answered_over (listing_of t) (is_listing v t own) has) given it)

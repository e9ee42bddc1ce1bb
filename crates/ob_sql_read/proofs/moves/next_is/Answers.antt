use Rattle.std.proofs.Common.{◌≡◌, [], None, Some, sym, subst}
use Rattle.sqlite.specs.Given.{GivesOn, row_if}
use Rattle.ob_post.specs.Keys.{dim_number}
use Rattle.ob_sql_rows.specs.Rows.{moved_row}
use Rattle.ob_sql_read.specs.Moves.{moved_listing}
use Rattle.ob_sql_read.proofs.Listing.{goes_on, ends_off}
use Rattle.ob_sql_read.proofs.Rowing.{moved_is}
use Rattle.sqlite.specs.Held.{state}
use Rattle.ob_sql_read.proofs.Failing.{answered_over, cause_of_error}
use Rattle.ob_sql_read.proofs.moves.next_is.Goals as goal

pub returns-in-Some-clause-goes : goal.returns-in-Some-clause-goes
returns-in-Some-clause-goes g c clean v has given it =
    let old = c.args.rows.now.conn.now in
    let new = c.advance.new.rows.conn.now in
    let step = c.in_ok-advance.ensures in
    let at : row_if c.advance.new.rows.has_row new ≡ Some c.in-Some.row.now = sym (rw c.in-Some.is at c.get.ensures) in
    let more = subst (GivesOn g.S.Store moved_listing.text [] old new given) at (step.goes clean moved_listing.text [] given it) in
    goes_on g.S.Store moved_listing (moved_is v) old new has (step.same clean) given c.is_moved.result c.in-Some.row.now (moved_row c.args.no (dim_number c.args.it.now.dim) c.args.it.now.key c.args.it.now.delta) c.is_moved.ensures more

pub returns-in-None-clause-goes : goal.returns-in-None-clause-goes
returns-in-None-clause-goes g c clean v has given it =
    let old = c.args.rows.now.conn.now in
    let new = c.advance.new.rows.conn.now in
    let step = c.in_ok-advance.ensures in
    let at : row_if c.advance.new.rows.has_row new ≡ None = sym (rw c.in-None.is at c.get.ensures) in
    let shown = subst (GivesOn g.S.Store moved_listing.text [] old new given) at (step.goes clean moved_listing.text [] given it) in
    ends_off g.S.Store moved_listing (moved_is v) old new has (step.same clean) given (moved_row c.args.no (dim_number c.args.it.now.dim) c.args.it.now.key c.args.it.now.delta) shown

pub returns-in_err-advance-clause-cause : goal.returns-in_err-advance-clause-cause
returns-in_err-advance-clause-cause g c late v has given it =
    cause_of_error (state g.S.Store c.args.rows.now.conn.now) (state g.S.Store c.advance.new.rows.conn.now) c.from_residual.result _ c.from_residual.ensures.1
    (c.in_err-advance.ensures.cause late moved_listing.text (answered_over moved_listing (moved_is v) has) given it)

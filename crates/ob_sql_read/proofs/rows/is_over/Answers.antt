use Rattle.std.proofs.Common.{◌≡◌, None, Some, sym, subst, []}
use Rattle.sqlite.specs.Given.{GivesOn, row_if}
use Rattle.ob_sql_read.proofs.Listing.{one_left, whole_list}
use Rattle.ob_sql_read.proofs.Failing.{cause_of_error}
use Rattle.sqlite.specs.Held.{state}
use Rattle.ob_sql_read.proofs.rows.is_over.Goals as goal

pub returns-in-Some-clause-over : goal.returns-in-Some-clause-over
returns-in-Some-clause-over g c clean schema l means has given it =
    let old = c.args.rows.now.conn.now in
    let new = c.advance.new.rows.conn.now in
    let at : row_if c.advance.new.rows.has_row new ≡ Some c.in-Some.field-0.now = sym (rw c.in-Some.is at c.get.ensures) in
    let more = subst (GivesOn g.S.Store l.text [] old new given) at (c.in_ok-advance.ensures.goes clean l.text [] given it) in
    one_left g.S.Store l means old new has (c.in_ok-advance.ensures.same clean) given c.in-Some.field-0.now more

pub returns-in-None-clause-over : goal.returns-in-None-clause-over
returns-in-None-clause-over g c clean schema l means has given it =
    let old = c.args.rows.now.conn.now in
    let new = c.advance.new.rows.conn.now in
    let at : row_if c.advance.new.rows.has_row new ≡ None = sym (rw c.in-None.is at c.get.ensures) in
    let shown = subst (GivesOn g.S.Store l.text [] old new given) at (c.in_ok-advance.ensures.goes clean l.text [] given it) in
    whole_list g.S.Store l means old new has (c.in_ok-advance.ensures.same clean) given shown

pub returns-in_err-advance-clause-cause : goal.returns-in_err-advance-clause-cause
returns-in_err-advance-clause-cause g c late text is given it =
    cause_of_error (state g.S.Store c.args.rows.now.conn.now) (state g.S.Store c.advance.new.rows.conn.now) c.from_residual.result _ c.from_residual.ensures.1 (c.in_err-advance.ensures.cause late text is given it)

use Rattle.std.proofs.Common.{◌≡◌, [], ◌∷◌, ◌++◌, None, Some, refl, sym, ap, subst, ◌∙◌, rules, to_z-of_z, w64}
use Rattle.std.specs.Prelude.{FitsSigned}
use Rattle.sqlite.specs.Given.{GivesOn, HasGiven, row_if}
use Rattle.sqlite.specs.Tree.{rowid}
use Rattle.ob_sql_rows.specs.Rows.{Columns}
use Rattle.ob_sql_read.specs.Listing.{referenced}
use Rattle.ob_sql_read.specs.Ordered.{row_with}
use Rattle.ob_sql_read.specs.Reading.{command_listing}
use Rattle.ob_sql_read.proofs.Filing.{none_some}
use Rattle.ob_sql_read.proofs.Listing.{whole_list}
use Rattle.ob_sql_read.proofs.Selects.{lists_commands}
use Rattle.ob_sql_read.proofs.Standing.{one_stands}
use Rattle.sqlite.specs.Held.{state}
use Rattle.ob_sql_read.proofs.Failing.{answered_over, cause_of_error}
use Rattle.ob_sql_read.proofs.commands.next_filed.Goals as goal

pub returns-in_default-clause-stands : goal.returns-in_default-clause-stands
returns-in_default-clause-stands g c clean v has given it =
    let old = c.args.rows.now.conn.now in
    let new = c.advance.new.rows.conn.now in
    let at : row_if c.advance.new.rows.has_row new ≡ None = sym (rw c.in_default.is at c.get.ensures) in
    let shown = subst (GivesOn g.S.Store command_listing.text [] old new given) at (c.in_ok-advance.ensures.goes clean command_listing.text [] given it) in
    whole_list g.S.Store command_listing (lists_commands v) old new has (c.in_ok-advance.ensures.same clean) given shown

-- the row's number isn't above the last
pub returns-in_default-higher_in-clause-stands : goal.returns-in_default-higher_in-clause-stands
returns-in_default-higher_in-clause-stands g c clean v has given it =
    let old = c.args.rows.now.conn.now in
    let new = c.advance.new.rows.conn.now in
    let at : row_if c.advance.new.rows.has_row new ≡ Some c.in-Some.row.now = sym (rw c.in-Some.is at c.get.ensures) in
    let more = subst (GivesOn g.S.Store command_listing.text [] old new given) at (c.in_ok-advance.ensures.goes clean command_listing.text [] given it) in
    let one = one_stands g.S.Store v old new has (c.in_ok-advance.ensures.same clean) given c.in-Some.row.now more in
    (c.in-Some.row.now, one.0, one.1, λ n f above filed is. none_some c.higher_in.result n c.in_default-higher_in.is ((c.higher_in.ensures n).1 (ap rowid is, above)))

pub returns-clause-valid : goal.returns-clause-valid
returns-clause-valid g c =
    let fits : FitsSigned w64 c.in-Some-higher_in.number = search rules in
    rw (to_z-of_z fits) (((c.in-Some-higher_in.ensures c.in-Some-higher_in.number).0 refl).1, ((c.in_ok-filed.ensures.filed c.in-Some-2.filed).0 c.in-Some-2.is).0)

pub returns-clause-stands : goal.returns-clause-stands
returns-clause-stands g c clean v has given it =
    let old = c.args.rows.now.conn.now in
    let new = c.advance.new.rows.conn.now in
    let at : row_if c.advance.new.rows.has_row new ≡ Some c.in-Some.row.now = sym (rw c.in-Some.is at c.get.ensures) in
    let more = subst (GivesOn g.S.Store command_listing.text [] old new given) at (c.in_ok-advance.ensures.goes clean command_listing.text [] given it) in
    let fits : FitsSigned w64 c.in-Some-higher_in.number = search rules in
    let number = ((c.in-Some-higher_in.ensures c.in-Some-higher_in.number).0 refl).0 in
    let row = ((c.in_ok-filed.ensures.filed c.in-Some-2.filed).0 c.in-Some-2.is).1 in
    rw (to_z-of_z fits) (subst (λ (r : Columns). HasGiven g.S.Store command_listing.text [] new (given ++ r ∷ [])) (row ∙ ap (λ w. row_with c.args.version w (referenced c.in-Some-2.filed)) number) more)

pub returns-in_default-2-clause-stands : goal.returns-in_default-2-clause-stands
returns-in_default-2-clause-stands g c clean v has given it =
    let old = c.args.rows.now.conn.now in
    let new = c.advance.new.rows.conn.now in
    let at : row_if c.advance.new.rows.has_row new ≡ Some c.in-Some.row.now = sym (rw c.in-Some.is at c.get.ensures) in
    let more = subst (GivesOn g.S.Store command_listing.text [] old new given) at (c.in_ok-advance.ensures.goes clean command_listing.text [] given it) in
    let one = one_stands g.S.Store v old new has (c.in_ok-advance.ensures.same clean) given c.in-Some.row.now more in
    (c.in-Some.row.now, one.0, one.1, λ n f above filed is. none_some c.in_ok-filed.field-0 f c.in_default-2.is ((c.in_ok-filed.ensures.filed f).1 (filed, is ∙ ap (λ w. row_with c.args.version w (referenced f)) (sym (ap rowid is)))))

pub returns-in_err-advance-clause-cause : goal.returns-in_err-advance-clause-cause
returns-in_err-advance-clause-cause g c late v has given it =
    cause_of_error (state g.S.Store c.args.rows.now.conn.now) (state g.S.Store c.advance.new.rows.conn.now) c.from_residual.result _ c.from_residual.ensures.1
    (c.in_err-advance.ensures.cause late command_listing.text (answered_over command_listing (lists_commands v) has) given it)

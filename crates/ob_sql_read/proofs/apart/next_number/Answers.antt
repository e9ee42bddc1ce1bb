use Rattle.std.proofs.Common.{◌≡◌, [], None, Some, refl, sym, subst, rules, to_z-of_z, w64}
use Rattle.std.specs.Prelude.{FitsSigned}
use Rattle.sqlite.specs.Given.{GivesOn, row_if}
use Rattle.ob_sql_rows.specs.Versions.{schema_of}
use Rattle.ob_sql_read.specs.Apart.{number_command, number_text}
use Rattle.ob_sql_read.proofs.Filing.{none_some}
use Rattle.ob_sql_read.proofs.NumberQuery.{numbers_answered, numbers_mean, numbers_plain, numbers_unlisted}
use Rattle.ob_sql_read.proofs.Texts.{on_answer, whole_answer}
use Rattle.sqlite.specs.Held.{state}
use Rattle.ob_sql_read.proofs.Failing.{cause_of_error}
use Rattle.ob_sql_rows.specs.Queries.{IsAlwaysAnswered}
use Rattle.ob_sql_read.proofs.apart.next_number.Goals as goal

pub returns-in_default-clause-stands : goal.returns-in_default-clause-stands
returns-in_default-clause-stands g c clean v has given it =
    let old = c.args.rows.now.conn.now in
    let new = c.advance.new.rows.conn.now in
    let at : row_if c.advance.new.rows.has_row new ≡ None = sym (rw c.in_default.is at c.get.ensures) in
    let shown = subst (GivesOn g.S.Store number_text [] old new given) at (c.in_ok-advance.ensures.goes clean number_text [] given it) in
    whole_answer (schema_of v) number_text (numbers_plain v) number_command (numbers_mean v) (numbers_unlisted v) (λ db params. tt) g.S.Store old new has (c.in_ok-advance.ensures.same clean) given shown

pub returns-in-Some-higher_in-clause-stands : goal.returns-in-Some-higher_in-clause-stands
returns-in-Some-higher_in-clause-stands g c clean v has given it =
    let old = c.args.rows.now.conn.now in
    let new = c.advance.new.rows.conn.now in
    let at : row_if c.advance.new.rows.has_row new ≡ Some c.in-Some.row.now = sym (rw c.in-Some.is at c.get.ensures) in
    let more = subst (GivesOn g.S.Store number_text [] old new given) at (c.in_ok-advance.ensures.goes clean number_text [] given it) in
    let fits : FitsSigned w64 c.in-Some-higher_in.number = search rules in
    rw (to_z-of_z fits) (c.in-Some.row.now, more, ((c.in-Some-higher_in.ensures c.in-Some-higher_in.number).0 refl).0)

pub returns-in-None-clause-stands : goal.returns-in-None-clause-stands
returns-in-None-clause-stands g c clean v has given it =
    let old = c.args.rows.now.conn.now in
    let new = c.advance.new.rows.conn.now in
    let at : row_if c.advance.new.rows.has_row new ≡ Some c.in-Some.row.now = sym (rw c.in-Some.is at c.get.ensures) in
    let more = subst (GivesOn g.S.Store number_text [] old new given) at (c.in_ok-advance.ensures.goes clean number_text [] given it) in
    let one = on_answer (schema_of v) number_text (numbers_plain v) number_command (numbers_mean v) (numbers_unlisted v) (λ db params. tt) g.S.Store old new has (c.in_ok-advance.ensures.same clean) given c.in-Some.row.now more in
    (c.in-Some.row.now, one.0, one.1, λ n number above. none_some c.higher_in.result n c.in-None.is ((c.higher_in.ensures n).1 (number, above)))

pub returns-in-Some-higher_in-clause-above : goal.returns-in-Some-higher_in-clause-above
returns-in-Some-higher_in-clause-above g c =
    let fits : FitsSigned w64 c.in-Some-higher_in.number = search rules in
    rw (to_z-of_z fits) ((c.in-Some-higher_in.ensures c.in-Some-higher_in.number).0 refl).1

pub returns-in_err-advance-clause-cause : goal.returns-in_err-advance-clause-cause
returns-in_err-advance-clause-cause g c late v has given it =
    cause_of_error (state g.S.Store c.args.rows.now.conn.now) (state g.S.Store c.advance.new.rows.conn.now) c.from_residual.result _ c.from_residual.ensures.1
    (c.in_err-advance.ensures.cause late number_text (subst (λ s. IsAlwaysAnswered s number_text []) (sym has) (numbers_answered v)) given it)

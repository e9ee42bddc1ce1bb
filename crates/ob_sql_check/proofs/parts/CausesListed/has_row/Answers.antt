use Rattle.std.proofs.Common.{◌<◌, ◌∙◌, ap, arith, is_some}
use Rattle.ob_sql_rows.specs.Rows.{cause_row}
use Rattle.ob_sql_check.proofs.Rising.{length_placed, some_placed}
use Rattle.ob_sql_check.proofs.parts.CausesListed.has_row.Goals as goal

pub overflow_cast-at : goal.overflow_cast-at
overflow_cast-at g c =
    let causes = c.args.self.now.book.now.state.causes in
    let low : c.args.at < 64 = omega (arith, c.requires, length_placed cause_row 0 causes, c.accepted.ensures.sound.state.causes) in
    omega (arith, low)

pub returns : goal.returns
returns g c =
    let causes = c.args.self.now.book.now.state.causes in
    let low : c.args.at < 64 = omega (arith, c.requires, length_placed cause_row 0 causes, c.accepted.ensures.sound.state.causes) in
    c.is_some.ensures ∙ ap is_some c.cause_name.ensures ∙ some_placed cause_row 0 causes c.args.at

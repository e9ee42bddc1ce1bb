use Rattle.std.proofs.Common.{◌≡◌, ◌<◌, ◌∙◌, Some, None, slice_index_or, sym, arith}
use Rattle.ob_sql_rows.specs.Rows.{cause_row}
use Rattle.ob_sql_check.proofs.Rising.{at_placed, decides, length_placed, none_here, none_placed}
use Rattle.ob_sql_check.proofs.parts.CausesListed.is_row.Goals as goal

pub overflow_cast-at : goal.overflow_cast-at
overflow_cast-at g c =
    let causes = c.args.self.now.book.now.state.causes in
    let low : c.args.at < 64 = omega (arith, c.requires, length_placed cause_row 0 causes, c.accepted.ensures.sound.state.causes) in
    omega (arith, low)

pub returns-in_default : goal.returns-in_default
returns-in_default g c =
    let causes = c.args.self.now.book.now.state.causes in
    none_here _ c.args.row.now (none_placed cause_row 0 causes c.args.at (sym c.cause_name.ensures ∙ c.in_default.is))

pub returns : goal.returns
returns g c =
    let causes = c.args.self.now.book.now.state.causes in
    let here : slice_index_or causes c.args.at None ≡ Some c.in-Some.name = sym c.cause_name.ensures ∙ c.in-Some.is in
    decides _ _ c.args.row.now (cause_row c.args.at c.in-Some.name) c.is_cause_row.ensures
    (at_placed cause_row 0 causes c.args.at c.in-Some.name here c.args.at (omega arith))

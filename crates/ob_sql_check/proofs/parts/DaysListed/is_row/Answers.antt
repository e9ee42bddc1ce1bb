use Rattle.std.proofs.Common.{◌≡◌, ◌<◌, ◌∙◌, Some, None, length, slice_index_or, sym, ap, arith}
use Rattle.ob_sql_rows.specs.Rows.{mark_row}
use Rattle.ob_sql_check.proofs.Rising.{at_placed, decides, length_placed, none_here, none_placed}
use Rattle.ob_sql_check.proofs.parts.DaysListed.is_row.Goals as goal

pub day_at-requires : goal.day_at-requires
day_at-requires c =
    let marks = c.args.self.now.marks.now in
    let low : c.args.at < length marks = omega (arith, c.requires, length_placed mark_row 0 marks) in
    omega (arith, low, c.args.self.now.all)

pub engineer-requires : goal.engineer-requires
engineer-requires c =
    let marks = c.args.self.now.marks.now in
    let low : c.args.at < length marks = omega (arith, c.requires, length_placed mark_row 0 marks) in
    omega (arith, low, c.day_at.ensures)

pub returns-in_default : goal.returns-in_default
returns-in_default c =
    let marks = c.args.self.now.marks.now in
    none_here _ c.args.row.now (none_placed mark_row 0 marks c.args.at (ap (λ k. slice_index_or marks k None) (sym c.day_at.ensures) ∙ sym c.engineer.ensures ∙ c.in_default.is))

pub returns : goal.returns
returns c =
    let marks = c.args.self.now.marks.now in
    let here : slice_index_or marks c.args.at None ≡ Some c.in-Some.engineer = ap (λ k. slice_index_or marks k None) (sym c.day_at.ensures) ∙ sym c.engineer.ensures ∙ c.in-Some.is in
    decides _ _ c.args.row.now (mark_row c.args.at c.in-Some.engineer) c.is_mark_row.ensures
    (at_placed mark_row 0 marks c.args.at c.in-Some.engineer here c.args.at (omega arith))

use Rattle.std.proofs.Common.{◌<◌, ◌∙◌, None, is_some, length, slice_index_or, ap, arith}
use Rattle.ob_sql_rows.specs.Rows.{mark_row}
use Rattle.ob_sql_check.proofs.Rising.{length_placed, some_placed}
use Rattle.ob_sql_check.proofs.parts.DaysListed.has_row.Goals as goal

pub day_at-requires : goal.day_at-requires
day_at-requires c =
    let marks = c.args.self.now.marks.now in
    let low : c.args.at < length marks = omega (arith, c.requires, length_placed mark_row 0 marks) in
    omega (arith, low, c.args.self.now.all)

pub is_marked-requires : goal.is_marked-requires
is_marked-requires c =
    let marks = c.args.self.now.marks.now in
    let low : c.args.at < length marks = omega (arith, c.requires, length_placed mark_row 0 marks) in
    omega (arith, low, c.day_at.ensures)

pub returns : goal.returns
returns c =
    let marks = c.args.self.now.marks.now in
    c.is_marked.ensures ∙ ap (λ k. is_some (slice_index_or marks k None)) c.day_at.ensures ∙ some_placed mark_row 0 marks c.args.at

use Rattle.std.proofs.Common.{sym, ◌∙◌}
use Rattle.ob_sql_rows.specs.Rows.{mark_row}
use Rattle.ob_sql_check.proofs.Rising.{length_placed}
use Rattle.ob_sql_check.proofs.parts.DaysListed.count.Goals as goal

pub returns : goal.returns
returns c = c.from.ensures ∙ c.args.self.now.all ∙ sym (length_placed mark_row 0 c.args.self.now.marks.now)

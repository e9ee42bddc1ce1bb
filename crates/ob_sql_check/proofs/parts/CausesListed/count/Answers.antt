use Rattle.std.proofs.Common.{sym, ◌∙◌}
use Rattle.ob_sql_rows.specs.Rows.{cause_row}
use Rattle.ob_sql_check.proofs.Rising.{length_placed}
use Rattle.ob_sql_check.proofs.parts.CausesListed.count.Goals as goal

pub returns : goal.returns
returns g c = sym (length_placed cause_row 0 c.args.self.now.book.now.state.causes ∙ c.accepted.ensures.sound.state.causes)

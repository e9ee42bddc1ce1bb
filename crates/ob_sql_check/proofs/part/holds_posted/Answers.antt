use Rattle.std.proofs.Common.{ap, subst, ◌∙◌}
use Rattle.ob_time.specs.Calendar.{day_count}
use Rattle.ob_post.specs.Postings.{amount_of}
use Rattle.ob_state.specs.Amounts.{amount}
use Rattle.ob_sql_write.specs.Amounts.{amount_rows}
use Rattle.ob_sql_rows.specs.declared.table.Table.TheVariants.{Posting}
use Rattle.ob_sql_read.specs.Parts.{Compares}
use Rattle.ob_sql_check.proofs.Keyed.{same_rows}
use Rattle.ob_sql_check.proofs.part.holds_posted.Goals as goal

pub returns : goal.returns
returns g c v has =
    let b = c.args.book.now.state in
    let posted = amount_of c.postings.result.now in
    let days_are = c.days.ensures.value ∙ ap day_count (c.deref.ensures ∙ c.period.ensures) in
    let rows = ap (λ n. amount_rows n posted) days_are ∙ same_rows posted (amount b) (day_count b.period) c.postings.ensures.posted.amounts in
    subst (λ e. Compares g.S.Store v Posting e c.args.conn.now c.holds_amounts.new.conn c.holds_amounts.result) rows (c.holds_amounts.ensures v has)

use Rattle.ob_post.specs.Postings.{amount_of, day_count, total_of}
use Rattle.ob_post.specs.declared.Dim.TheVariants.{Day}
use Rattle.ob_json.proofs.Rows.{totals_have_none}
use Rattle.ob_json.proofs.totals.totals_text.Goals as goal

pub returns-clause-text : goal.returns-clause-text
returns-clause-text c =
    let text = rw c.in_ok-totals.ensures.data at c.in_ok-to_vec.ensures.text in
    text (totals_have_none (amount_of c.args.postings.now) (day_count c.args.postings.now) (total_of c.args.postings.now Day))

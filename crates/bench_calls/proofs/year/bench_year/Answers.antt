use Rattle.std.proofs.Common.{◌∙◌, inr}
use Rattle.ob_post.specs.declared.Dim.TheVariants.{Cause}
use Rattle.bench_calls.proofs.year.bench_year.Goals as goal

pub returns : goal.returns
returns c = inr (c.in-Some.book.state, c.in-Some.ensures, c.total.ensures.value ∙ c.postings.ensures.totals Cause)

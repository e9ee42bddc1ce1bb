use Rattle.std.proofs.Common.{◌∙◌, ◌&&◌, nat_le, nat_lt, rules}
use Rattle.std.proofs.lemmas.Iterator.{YieldsList-from_slice}
use Rattle.std.proofs.lemmas.Iterator.Search.{find_from_yields_List}
use borrow.Author.Tests.{tests}
use Rattle.ob_book.proofs.supply.run_at.Goals as goal

pub returns : goal.returns
returns c =
    c.copied.ensures
    ∙ find_from_yields_List (λ r. nat_le r.since c.args.second && nat_lt c.args.second r.until) _ _ c.find.result c.find.ensures.ran (YieldsList-from_slice c.args.runs.now cc) (λ x b q k. search (rules, tests))

use Rattle.std.proofs.Common.{◌+◌, sym, ap, ◌∙◌}
use Rattle.ob_post.specs.Postings.{amount_of}
use Rattle.ob_sql_write.specs.Amounts.{all_keys, amount_row}
use Rattle.ob_sql_check.proofs.Keyed.{length_keys}
use Rattle.ob_sql_check.proofs.Rising.{length_places}
use Rattle.ob_sql_check.proofs.parts.AmountsListed.count.Goals as goal

pub returns : goal.returns
returns c =
    let days = c.args.self.now.days in
    ap (λ n. 319 + n) c.from.ensures ∙ sym (length_places (amount_row (amount_of c.args.self.now.postings.now)) (all_keys days) ∙ length_keys days)

use Rattle.ob_post.specs.Postings.{amount_of}
use Rattle.ob_sql_write.specs.Amounts.{all_keys, amount_row}
use Rattle.ob_sql_check.proofs.Rising.{has_place}
use Rattle.ob_sql_check.proofs.parts.AmountsListed.has_row.Goals as goal

pub returns : goal.returns
returns c = has_place (amount_row (amount_of c.args.self.now.postings.now)) (all_keys c.args.self.now.days) c.args._at c.requires

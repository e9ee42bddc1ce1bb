use Rattle.std.proofs.Common.{◌≡◌, IsTrue, ◌∙◌, subst, arith}
use Rattle.std.specs.Prelude.{◌↔◌}
use Rattle.ob_post.specs.Postings.{amount_of}
use Rattle.ob_sql_write.specs.Amounts.{all_keys, amount_row}
use Rattle.ob_sql_check.proofs.Keyed.{Key, amount_columns, length_keys}
use Rattle.ob_sql_check.proofs.Rising.{decides, length_places, place_of}
use Rattle.ob_sql_check.proofs.parts.AmountsListed.is_row.Goals as goal

pub key_at-dim-requires : goal.key_at-dim-requires
key_at-dim-requires c =
    let days = c.args.self.now.days in
    omega (arith, c.requires, length_places (amount_row (amount_of c.args.self.now.postings.now)) (all_keys days), length_keys days)

pub returns : goal.returns
returns c =
    let days = c.args.self.now.days in
    let amount = amount_of c.args.self.now.postings.now in
    let key : Key = (c.key_at-dim.result.0, c.key_at-dim.result.1) in
    let columns = amount_columns amount key c.from.result c.from-2.result c.amount.result (c.from.ensures ∙ c.number.ensures) c.from-2.ensures c.amount.ensures.value in
    decides _ _ c.args.row.now (amount_row amount key) (subst (λ e. IsTrue c.is_posting_row.result ↔ (c.args.row.now ≡ e)) columns c.is_posting_row.ensures)
    (place_of (amount_row amount) (all_keys days) c.args.at key c.key_at-dim.ensures.key)

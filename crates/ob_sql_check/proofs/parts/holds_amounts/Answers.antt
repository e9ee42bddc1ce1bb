use Rattle.std.proofs.Common.{sym, subst}
use Rattle.std.specs.List.Sorted.{IsStrictlySortedBy}
use Rattle.ob_post.specs.Postings.{amount_of}
use Rattle.ob_sql_rows.specs.declared.table.Table.TheVariants.{Posting}
use Rattle.ob_sql_write.specs.Amounts.{all_keys, amount_row}
use Rattle.ob_sql_read.specs.Parts.{Compares, row_cmp}
use Rattle.ob_sql_check.proofs.Keyed.{amounts_rise}
use Rattle.ob_sql_check.proofs.Rising.{standing_all}
use Rattle.ob_sql_check.proofs.parts.holds_amounts.Goals as goal

pub holds-requires : goal.holds-requires
holds-requires g c =
    let amount = amount_of c.args.postings.now in
    record { rises = subst (IsStrictlySortedBy (row_cmp Posting)) (sym (standing_all (amount_row amount) (all_keys c.args.days))) (amounts_rise amount c.args.days) }

pub returns : goal.returns
returns g c v has = subst (λ e. Compares g.S.Store v Posting e c.args.conn.now c.holds.new.conn c.holds.result) (standing_all (amount_row (amount_of c.args.postings.now)) (all_keys c.args.days)) (c.holds.ensures v has)

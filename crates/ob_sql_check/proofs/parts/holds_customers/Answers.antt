use Rattle.std.proofs.Common.{[], ◌∷◌, map, sym, subst}
use Rattle.std.specs.List.Sorted.{IsStrictlySortedBy}
use Rattle.ob_cust.specs.declared.Customer.{Customer as RollCustomer}
use Rattle.ob_sql_rows.specs.Rows.{customer_row, number, number_or_null}
use Rattle.ob_sql_rows.specs.declared.table.Table.TheVariants.{Customer}
use Rattle.ob_sql_read.specs.Parts.{Compares, row_cmp}
use Rattle.ob_sql_check.proofs.Rising.{rise_mapped, standing_all}
use Rattle.ob_sql_check.proofs.parts.holds_customers.Goals as goal

pub holds-requires : goal.holds-requires
holds-requires g c =
    let cs = c.args.roll.now.customers in
    let rising = subst (λ l. IsStrictlySortedBy (row_cmp Customer) (map customer_row l)) c.customers.ensures.customers
    (rise_mapped (λ (x : RollCustomer). x.no) (λ (x : RollCustomer). number x.section ∷ number x.since ∷ number_or_null x.until ∷ []) c.customers.result.now c.customers.ensures.rising) in
    record { rises = subst (IsStrictlySortedBy (row_cmp Customer)) (sym (standing_all customer_row cs)) rising }

pub returns : goal.returns
returns g c v has = subst (λ e. Compares g.S.Store v Customer e c.args.conn.now c.holds.new.conn c.holds.result) (standing_all customer_row c.args.roll.now.customers) (c.holds.ensures v has)

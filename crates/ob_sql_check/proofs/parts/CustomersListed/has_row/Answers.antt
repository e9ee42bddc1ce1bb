use Rattle.ob_sql_rows.specs.Rows.{customer_row}
use Rattle.ob_sql_check.proofs.Rising.{has_place}
use Rattle.ob_sql_check.proofs.parts.CustomersListed.has_row.Goals as goal

pub returns : goal.returns
returns c = has_place customer_row c.args.self.now.roll.now.customers c.args._at c.requires

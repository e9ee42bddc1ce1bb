use Rattle.ob_sql_rows.specs.Rows.{entry_row}
use Rattle.ob_sql_check.proofs.Rising.{has_place}
use Rattle.ob_sql_check.proofs.parts.EntriesListed.has_row.Goals as goal

pub returns : goal.returns
returns c = has_place entry_row c.args.self.now.sheet.now.entries c.args._at c.requires

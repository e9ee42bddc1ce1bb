use Rattle.ob_sql_check.proofs.Rising.{has_all}
use Rattle.ob_sql_check.proofs.numbered.NumberedListed.has_row.Goals as goal

pub returns : goal.returns
returns g c = has_all g.K.Kind.row_of c.args.self.now.elements.now c.args._at c.requires

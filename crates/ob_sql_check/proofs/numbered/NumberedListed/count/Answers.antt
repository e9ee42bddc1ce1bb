use Rattle.std.proofs.Common.{sym}
use Rattle.ob_sql_check.proofs.Rising.{length_all}
use Rattle.ob_sql_check.proofs.numbered.NumberedListed.count.Goals as goal

pub returns : goal.returns
returns g c = sym (length_all g.K.Kind.row_of c.args.self.now.elements.now)

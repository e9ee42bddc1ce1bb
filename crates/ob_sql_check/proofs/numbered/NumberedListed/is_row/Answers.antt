use Rattle.std.proofs.Common.{◌<◌, arith, length, rules}
use Rattle.ob_sql_check.proofs.Rising.{decides_all, length_all}
use Rattle.ob_sql_check.proofs.numbered.NumberedListed.is_row.Goals as goal

pub bounds-self-at : goal.bounds-self-at
bounds-self-at g c = omega (arith, c.requires, length_all g.K.Kind.row_of c.args.self.now.elements.now)

pub offset_bounds-self-at : goal.offset_bounds-self-at
offset_bounds-self-at g c =
    let xs = c.args.self.now.elements.now in
    let low : c.args.at < length xs = omega (arith, c.requires, length_all g.K.Kind.row_of xs) in search rules

pub returns : goal.returns
returns g c = decides_all g.K.Kind.row_of c.args.self.now.elements.now _ c.args.at c.index-self-at.result c.args.row.now c.requires c.is_row.ensures

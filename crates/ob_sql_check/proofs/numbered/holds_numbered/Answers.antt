use Rattle.std.proofs.Common.{sym, subst}
use Rattle.std.specs.List.Sorted.{IsStrictlySortedBy}
use Rattle.ob_sql_read.specs.Parts.{Compares, row_cmp}
use Rattle.ob_sql_check.proofs.Rising.{standing_each}
use Rattle.ob_sql_check.proofs.numbered.holds_numbered.Goals as goal

pub holds-requires : goal.holds-requires
holds-requires g c = record { rises = subst (IsStrictlySortedBy (row_cmp g.K.Kind.table)) (sym (standing_each g.K.Kind.row_of c.args.elements.now)) c.requires.rises }

pub returns : goal.returns
returns g c v has =
    subst (λ e. Compares g.S.Store v g.K.Kind.table e c.args.conn.now c.holds.new.conn c.holds.result) (standing_each g.K.Kind.row_of c.args.elements.now) (c.holds.ensures v has)

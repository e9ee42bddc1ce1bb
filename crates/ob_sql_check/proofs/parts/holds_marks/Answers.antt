use Rattle.std.proofs.Common.{ℕ, List, [], ◌∷◌, sym, subst}
use Rattle.std.specs.List.Sorted.{IsStrictlySortedBy}
use Rattle.ob_sql_rows.specs.Rows.{mark_row}
use Rattle.sqlite.specs.declared.types.Value.TheVariants.{Text}
use Rattle.ob_sql_rows.specs.declared.table.Table.TheVariants.{Mark}
use Rattle.ob_sql_read.specs.Parts.{Compares, row_cmp}
use Rattle.ob_sql_check.proofs.Rising.{rise_present, standing_placed}
use Rattle.ob_sql_check.proofs.parts.holds_marks.Goals as goal

pub holds-requires : goal.holds-requires
holds-requires g c =
    let marks = c.args.marks.now in
    record { rises = subst (IsStrictlySortedBy (row_cmp Mark)) (sym (standing_placed mark_row 0 marks)) (rise_present (λ (day : ℕ) (engineer : List ℕ). Text engineer ∷ []) 0 marks) }

pub returns : goal.returns
returns g c v has = subst (λ e. Compares g.S.Store v Mark e c.args.conn.now c.holds.new.conn c.holds.result) (standing_placed mark_row 0 c.args.marks.now) (c.holds.ensures v has)

use Rattle.std.proofs.Common.{ℕ, List, [], ◌∷◌, sym, subst}
use Rattle.std.specs.List.Sorted.{IsStrictlySortedBy}
use Rattle.ob_sql_rows.specs.Rows.{cause_row}
use Rattle.sqlite.specs.declared.types.Value.TheVariants.{Text}
use Rattle.ob_sql_rows.specs.declared.table.Table.TheVariants.{Cause}
use Rattle.ob_sql_read.specs.Parts.{Compares, row_cmp}
use Rattle.ob_sql_check.proofs.Rising.{rise_present, standing_placed}
use Rattle.ob_sql_check.proofs.parts.holds_causes.Goals as goal

pub holds-requires : goal.holds-requires
holds-requires g c =
    let causes = c.args.book.now.state.causes in
    record { rises = subst (IsStrictlySortedBy (row_cmp Cause)) (sym (standing_placed cause_row 0 causes)) (rise_present (λ (code : ℕ) (name : List ℕ). Text name ∷ []) 0 causes) }

pub returns : goal.returns
returns g c v has = subst (λ e. Compares g.S.Store v Cause e c.args.conn.now c.holds.new.conn c.holds.result) (standing_placed cause_row 0 c.args.book.now.state.causes) (c.holds.ensures v has)

use Rattle.std.proofs.Common.{[], ◌∷◌, sym, subst}
use Rattle.std.specs.List.Sorted.{IsStrictlySortedBy}
use Rattle.ob_sheet.specs.declared.Entry.{Entry as SheetEntry}
use Rattle.ob_sql_rows.specs.Rows.{bit, entry_row, number, position_number}
use Rattle.sqlite.specs.declared.types.Value.TheVariants.{Text}
use Rattle.ob_sql_rows.specs.declared.table.Table.TheVariants.{Entry}
use Rattle.ob_sql_read.specs.Parts.{Compares, row_cmp}
use Rattle.ob_sql_check.proofs.Entries.{entries_rise}
use Rattle.ob_sql_check.proofs.Rising.{rise_mapped, standing_all}
use Rattle.ob_sql_check.proofs.parts.holds_entries.Goals as goal

pub holds-requires : goal.holds-requires
holds-requires g c =
    let es = c.args.sheet.now.entries in
    let rising = rise_mapped (λ (e : SheetEntry). e.«no»)
    (λ (e : SheetEntry). number e.rev ∷ number e.device ∷ number (position_number e.pos) ∷ number e.second ∷ number e.cause ∷ Text e.crew ∷ number (bit e.kept) ∷ [])
    es (entries_rise es c.entry.ensures.numbered) in
    record { rises = subst (IsStrictlySortedBy (row_cmp Entry)) (sym (standing_all entry_row es)) rising }

pub returns : goal.returns
returns g c v has = subst (λ e. Compares g.S.Store v Entry e c.args.conn.now c.holds.new.conn c.holds.result) (standing_all entry_row c.args.sheet.now.entries) (c.holds.ensures v has)

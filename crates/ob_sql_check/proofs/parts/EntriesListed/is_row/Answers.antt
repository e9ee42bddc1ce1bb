use Rattle.std.proofs.Common.{◌≡◌, ◌<◌, ◌∙◌, Some, sym, refl, length, arith, ◌+◌}
use Rattle.std.specs.Prelude.{slice_get}
use Rattle.ob_sql_rows.specs.Rows.{entry_row}
use Rattle.ob_sql_check.proofs.Entries.{entry_found}
use Rattle.ob_sql_check.proofs.Rising.{decides, length_places, place_of}
use Rattle.ob_sql_check.proofs.parts.EntriesListed.is_row.Goals as goal

pub returns-in_default : goal.returns-in_default
returns-in_default c =
    let entries = c.args.self.now.sheet.now.entries in
    let low : c.args.at < length entries = omega (arith, c.requires, length_places entry_row entries) in
    let it = entry_found entries c.args.at (c.args.at + 1) c.entry.ensures.numbered low refl in
    absurd (c.in_default.not-Some it.0 (c.entry.ensures.entry ∙ it.1))

pub returns : goal.returns
returns c =
    let entries = c.args.self.now.sheet.now.entries in
    let low : c.args.at < length entries = omega (arith, c.requires, length_places entry_row entries) in
    let it = entry_found entries c.args.at (c.args.at + 1) c.entry.ensures.numbered low refl in
    let here : slice_get entries c.args.at ≡ Some c.in-Some.entry = it.2 ∙ sym it.1 ∙ sym c.entry.ensures.entry ∙ c.in-Some.is in
    decides _ _ c.args.row.now (entry_row c.in-Some.entry) c.is_entry_row.ensures (place_of entry_row entries c.args.at c.in-Some.entry here)

use Rattle.std.proofs.Common.{◌≡◌, refl, true, false, true≢false}
use Rattle.ob_store.proofs.Faults.{tells_nothing}
use Rattle.ob_import.proofs.Importing.{cause_by, no_book_fault}
use Rattle.ob_import.proofs.text.import_text.Goals as goal

pub returns-clause-cause : goal.returns-clause-cause
returns-clause-cause g c is = cause_by c.import_rows.result (true ≡ false) ⊥ true≢false c.import_rows.ensures.runs.cause

pub returns-clause-tells : goal.returns-clause-tells
returns-clause-tells g c = c.import_rows.ensures.tells

pub returns-then-is_none-clause-tells : goal.returns-then-is_none-clause-tells
returns-then-is_none-clause-tells g c =
    let k = c.args.keeper.now in tells_nothing k k _ refl (no_book_fault c.fault_without_book.result c.fault_without_book.ensures)

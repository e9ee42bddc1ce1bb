use Rattle.std.proofs.Common.{◌≡◌, None, false, cond, refl, sym, subst, ◌∙◌}
use Rattle.ob_csv.specs.Header.{is_header}
use Rattle.ob_csv.specs.RowReading.{rows_left}
use Rattle.ob_import.specs.Whole.{GivesBody}
use Rattle.ob_import.proofs.Reading.{header_none, header_there, memory_only}
use Rattle.ob_import.proofs.whole.lines_after.Goals.{then-not-found-via-then-not-found, then-not-found-via-else-not-found+then-not-is_header}
use Rattle.ob_import.proofs.whole.lines_after.Goals as goal

pub returns-in-Err-clause-faults : goal.returns-in-Err-clause-faults
returns-in-Err-clause-faults g c = memory_only c.in-Err.fault c.in-Err.ensures.fault c.in-Err.ensures.store

pub returns-then-not-found-clause-body : goal.returns-then-not-found-clause-body
returns-then-not-found-clause-body g c all is =
    let left = rows_left g.R.Read.remaining in
    let none : cond c.in-Ok.found (is_header c.take_row.new.row) false ≡ false = elim c.then-not-found.branch [
      | then-not-found-via-then-not-found w ↦ rw w.if-not-found.true refl
      | then-not-found-via-else-not-found+then-not-is_header w ↦ rw w.if-not-found.false (sym w.is_header.ensures ∙ w.if-not-is_header.true)
    ] in
    subst (λ body. GivesBody g.R.Read.remaining body None) (sym (header_none (left c.new-rows.result) (left c.take_row.new.rows) c.in-Ok.found c.take_row.new.row all (c.new-rows.ensures.rows ∙ is) c.in-Ok.ensures.takes none)) tt

pub returns-clause-body : goal.returns-clause-body
returns-clause-body g c all is =
    let left = rows_left g.R.Read.remaining in
    let takes = rw c.if-not-found.false at c.in-Ok.ensures.takes in
    let header = sym c.is_header.ensures ∙ c.if-not-is_header.false in
    let it = header_there (left c.new-rows.result) (left c.take_row.new.rows) c.take_row.new.row all (c.new-rows.ensures.rows ∙ is) takes header in
    rw it.2 (it.1, refl, refl)

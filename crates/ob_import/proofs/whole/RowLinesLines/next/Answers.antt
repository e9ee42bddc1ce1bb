use Rattle.std.proofs.Common.{◌≡◌, ◌≤◌, ◌∙◌, inl, inr, refl, sym, subst, arith}
use Rattle.ob_import.specs.Whole.{GivesNone, IsLine}
use Rattle.ob_import.proofs.Reading.{memory_only}
use Rattle.ob_import.proofs.whole.RowLinesLines.next.Goals as goal

pub returns-in-Err-clause-memory : goal.returns-in-Err-clause-memory
returns-in-Err-clause-memory g c = memory_only c.in-Err.fault c.in-Err.ensures.fault c.in-Err.ensures.store

use Rattle.std.proofs.Common.{Ok, Err, sym}
use Rattle.ob_base.specs.declared.stop.Stop.TheVariants.{Fault}
use Rattle.ob_jobs.proofs.RowsWritten.{of_book}
use Rattle.ob_jobs.proofs.interruptions.write_book.Goals as goal
use Rattle.ob_store.specs.Keepers.{book_of}

pub returns-in-Ok : goal.returns-in-Ok
returns-in-Ok g c =
    of_book g.F.Write.contents (book_of c.args.keeper.now) c.in-Some.book.now.state c.args.file.now c.write_rows.new.file
    (Ok c.in-Ok.rows) (sym c.in-Some.ensures.state) (c.in-Ok.ensures.rows, c.in-Ok.ensures.tries)

pub returns-in-Err : goal.returns-in-Err
returns-in-Err g c =
    of_book g.F.Write.contents (book_of c.args.keeper.now) c.in-Some.book.now.state c.args.file.now c.write_rows.new.file
    (Err (Fault c.in-Err.fault)) (sym c.in-Some.ensures.state) (c.in-Err.ensures.rows, c.in-Err.ensures.tries)

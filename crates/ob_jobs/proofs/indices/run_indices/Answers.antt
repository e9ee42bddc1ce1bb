use Rattle.std.proofs.Common.{sym, ◌∙◌}
use Rattle.ob_jobs.proofs.Ends.{listed}
use Rattle.ob_jobs.proofs.indices.run_indices.Goals as goal
use Rattle.ob_store.specs.Keepers.{book_of}

pub returns-in-Ok : goal.returns-in-Ok
returns-in-Ok g c =
    listed c.args.by c.args.longest g.W.Write.contents c.args.writer.now c.tell.new.writer (book_of c.args.keeper.now) c.in-Some.book.now.state
    c.as_slice.result.now c.tell.result (sym c.in-Some.ensures.state) (c.as_slice.ensures.value ∙ c.in-Ok.ensures.text) c.tell.ensures

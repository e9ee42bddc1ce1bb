use Rattle.std.proofs.Common.{Err, inl, refl, sym, subst}
use Rattle.ob_base.specs.declared.stop.Stop.TheVariants.{Fault}
use Rattle.ob_stream.specs.Retrying.{TriesAll, TriesOrGivesUp}
use Rattle.ob_stream.specs.Streams.{retries_left}
use Rattle.ob_stream.specs.Watching.{watched_bytes}
use Rattle.ob_stream.proofs.Trying.{none_tried}
use Rattle.ob_store.specs.Keeping.{IsBookAfter}
use Rattle.ob_store.specs.MovingOut.{all_moves}
use Rattle.ob_store.specs.Keepers.{book_of}
use Rattle.ob_jobs.specs.Text.{header, lines_of, moves_text}
use Rattle.ob_jobs.specs.Exporting.{Exports}
use Rattle.ob_jobs.proofs.Written.{front_part, headed, tries_then}
use Rattle.ob_jobs.proofs.moves.export_moves.Goals as goal

pub returns-in-Ok-clause-exports : goal.returns-in-Ok-clause-exports
returns-in-Ok-clause-exports g c clean b ties some =
    let was = watched_bytes g.W.Write.contents c.args.writer.now in
    let mid = watched_bytes g.W.Write.contents c.write_text.new.writer in
    headed g.W.Write.contents c.args.keeper.now c.write_lines.new.keeper b was mid c.write_lines.new.writer header (lines_of (all_moves b)) c.write_lines.result c.in-Ok.ensures.whole (c.write_lines.ensures.exports clean b ties)

pub returns-in-Err-clause-exports : goal.returns-in-Err-clause-exports
returns-in-Err-clause-exports g c clean b ties some =
    let was = watched_bytes g.W.Write.contents c.args.writer.now in
    let is = c.write_text.new.writer in
    let k = c.args.keeper.now in
    let told = c.in-Err.ensures.fault in
    subst (λ f. Exports g.W.Write.contents k k was is b (moves_text b) (Err (Fault f))) (sym told.0)
    (front_part was (watched_bytes g.W.Write.contents is) header (lines_of (all_moves b)) c.in-Err.ensures.front, told.1, ties, refl)

pub returns-in-Err-clause-dropped : goal.returns-in-Err-clause-dropped
returns-in-Err-clause-dropped g c =
    let book = book_of c.args.keeper.now in
    subst (λ f. IsBookAfter book book (Fault f)) (sym c.in-Err.ensures.fault.0) refl

pub returns-in-Ok-clause-tries : goal.returns-in-Ok-clause-tries
returns-in-Ok-clause-tries g c =
    let it = c.write_lines.ensures.tries in
    let mid = c.write_text.new.writer in
    let headed = subst (λ n. TriesAll n (retries_left c.write_text.new.retries) c.args.writer.now mid) c.new-retries.ensures c.in-Ok.ensures.tries in
    (it.0, tries_then it.0 c.write_lines.new.writer c.write_lines.result headed it.1)

pub returns-in-Err-clause-tries : goal.returns-in-Err-clause-tries
returns-in-Err-clause-tries g c =
    let left = retries_left c.write_text.new.retries in
    (left, subst (λ n. TriesOrGivesUp n left c.args.writer.now c.write_text.new.writer) c.new-retries.ensures c.in-Err.ensures.tries)

pub returns-then-is_none-clause-tries : goal.returns-then-is_none-clause-tries
returns-then-is_none-clause-tries g c = (65536, inl (none_tried 65536 c.args.writer.now))

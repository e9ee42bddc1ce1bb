use Rattle.std.proofs.Common.{◌≡◌, subst, subst₂, rules}
use Rattle.ob_stream.specs.Retrying.{Tries}
use Rattle.ob_stream.specs.Streams.{retries_left}
use Rattle.ob_stream.specs.Watching.{HasJustFailed, watched_bytes}
use Rattle.ob_store.specs.MovingOut.{HandsOver, all_moves}
use Rattle.ob_store.specs.Keepers.{book_of}
use Rattle.ob_jobs.specs.Text.{lines_of}
use Rattle.ob_jobs.specs.Exporting.{Exports}
use Rattle.ob_jobs.proofs.Written.{book_after, book_kept, exported, has_failed, name_after, puts, tries_after}
use Rattle.ob_jobs.proofs.moves.write_lines.Goals as goal

pub returns-clause-output : goal.returns-clause-output
returns-clause-output g c is =
    let was = c.new-lines.result in
    let end = c.moves_out.new.sink in
    let handed = c.moves_out.ensures.sink c.requires in
    let name = name_after g.W.Write.contents was end c.moves_out.result handed in
    let same : end.writer.now ≡ c.writer-1.given.0 = search rules in
    subst HasJustFailed same (has_failed g.W.Write.contents was end (subst (HandsOver (puts g.W.Write.contents) was end) is handed))

pub returns-clause-exports : goal.returns-clause-exports
returns-clause-exports g c clean b ties =
    let was = c.new-lines.result in
    let end = c.moves_out.new.sink in
    let old = c.args.keeper.now in
    let new = c.moves_out.new.self in
    let name = name_after g.W.Write.contents was end c.moves_out.result (c.moves_out.ensures.sink c.requires) in
    let same : end.writer.now ≡ c.writer-1.given.0 = search rules in
    subst₂ (λ v w. Exports g.W.Write.contents old new (watched_bytes g.W.Write.contents v) w b (lines_of (all_moves b)) c.moves_out.result) c.new-lines.ensures.writer same
    (exported g.W.Write.contents old new b was end c.moves_out.result (c.moves_out.ensures.moves clean b ties c.requires))

pub returns-clause-kept : goal.returns-clause-kept
returns-clause-kept g c =
    book_kept g.W.Write.contents c.moves_out.new.sink (book_of c.args.keeper.now) (book_of c.moves_out.new.self) c.moves_out.result (c.moves_out.ensures.dropped c.requires)

pub returns-clause-dropped : goal.returns-clause-dropped
returns-clause-dropped g c =
    book_after g.W.Write.contents c.moves_out.new.sink (book_of c.args.keeper.now) (book_of c.moves_out.new.self) c.moves_out.result (c.moves_out.ensures.dropped c.requires)

pub returns-clause-tries : goal.returns-clause-tries
returns-clause-tries g c =
    let was = c.new-lines.result in
    let end = c.moves_out.new.sink in
    let done = c.moves_out.result in
    let handed = c.moves_out.ensures.sink c.requires in
    let name = name_after g.W.Write.contents was end done handed in
    let same : end.writer.now ≡ c.writer-1.given.0 = search rules in
    let tries = tries_after g.W.Write.contents was end done handed in (
      retries_left end.retries,
      subst (λ r. Tries (retries_left r) (retries_left end.retries) c.args.writer.now c.writer-1.given.0 done) c.new-lines.ensures.retries
          (subst₂ (λ v w. Tries (retries_left was.retries) (retries_left end.retries) v w done) c.new-lines.ensures.writer same tries),
    )

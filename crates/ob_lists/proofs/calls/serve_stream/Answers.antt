use Rattle.ob_stream.specs.Watching.{watched_bytes}
use Rattle.ob_lists.proofs.Serving.{stream_stands}
use Rattle.ob_lists.proofs.Numbering.{tells_over}
use Rattle.ob_lists.proofs.calls.serve_stream.Goals as goal

pub returns-clause-goes : goal.returns-clause-goes
returns-clause-goes g c =
    let old = c.args.keeper.now in
    let new = c.serve_stream.new.keeper in
    let s = c.serve_stream.ensures in
    let bytes = watched_bytes g.R.Read.remaining c.args.reader.now in
    let left = watched_bytes g.R.Read.remaining c.serve_stream.new.reader in
    let had = watched_bytes g.W.Write.contents c.args.writer.now in
    let has = watched_bytes g.W.Write.contents c.serve_stream.new.writer in
    record {
      clean = s.clean;
      stands = λ clean b before stands. stream_stands old new b before c.answers_law.ensures.bookless bytes had has s.unopened clean
          c.serve_stream.new.reader c.serve_stream.new.writer left c.serve_stream.result s.serves s.fails stands;
    }

pub returns-clause-tells : goal.returns-clause-tells
returns-clause-tells g c = tells_over c.args.keeper.now c.serve_stream.new.keeper _ c.serve_stream.ensures.unopened c.serve_stream.ensures.tells

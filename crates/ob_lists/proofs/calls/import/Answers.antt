use Rattle.std.specs.Prelude.{option_map}
use Rattle.ob_csv.specs.Rows.{rows_of}
use Rattle.ob_stream.specs.Watching.{watched_bytes}
use Rattle.ob_lists.proofs.Importing.{import_stands}
use Rattle.ob_lists.proofs.Numbering.{tells_over}
use Rattle.ob_lists.proofs.calls.import.Goals as goal

pub returns-clause-goes : goal.returns-clause-goes
returns-clause-goes g c =
    let old = c.args.keeper.now in
    let new = c.import.new.keeper in
    let i = c.import.ensures in
    record {
      clean = i.clean;
      stands = λ clean b before stands. import_stands old new b before (option_map rows_of (watched_bytes g.R.Read.remaining c.args.reader.now)) c.import.result i.reopen.0 i.unopened (i.imported clean) stands;
    }

pub returns-clause-tells : goal.returns-clause-tells
returns-clause-tells g c = tells_over c.args.keeper.now c.import.new.keeper _ c.import.ensures.unopened c.import.ensures.tells

use Rattle.std.specs.Prelude.{Some}
use Rattle.ob_csv.specs.Rows.{rows_of}
use Rattle.ob_lists.proofs.Importing.{import_stands}
use Rattle.ob_lists.proofs.Numbering.{tells_over}
use Rattle.ob_lists.proofs.calls.import_text.Goals as goal

pub returns-clause-goes : goal.returns-clause-goes
returns-clause-goes g c =
    let old = c.args.keeper.now in
    let new = c.import_text.new.keeper in
    let i = c.import_text.ensures in
    record {
      clean = i.clean;
      stands = λ clean b before stands. import_stands old new b before (Some (rows_of c.args.text.now)) c.import_text.result i.reopen.0 i.unopened (i.imported clean) stands;
    }

pub returns-clause-tells : goal.returns-clause-tells
returns-clause-tells g c = tells_over c.args.keeper.now c.import_text.new.keeper _ c.import_text.ensures.unopened c.import_text.ensures.tells

use Rattle.ob_lists.proofs.Serving.{desk_stands}
use Rattle.ob_lists.proofs.Numbering.{tells_over}
use Rattle.ob_lists.proofs.calls.run_serve.Goals as goal

pub returns-clause-goes : goal.returns-clause-goes
returns-clause-goes g c = record {
  clean = c.run_serve.ensures.keeper.clean;
  stands = λ clean b before stands. desk_stands c.args.keeper.now c.run_serve.new.keeper b before c.run_serve.result c.run_serve.ensures.keeper clean stands;
}

pub returns-clause-tells : goal.returns-clause-tells
returns-clause-tells g c = tells_over c.args.keeper.now c.run_serve.new.keeper _ c.run_serve.ensures.keeper.unopened c.run_serve.ensures.tells

use Rattle.std.proofs.lemmas.Result.{err_from_is_err_and}
use Rattle.std.proofs.Common.{inl, refl}
use Rattle.ob_store.proofs.Faults.{tells_nothing}
use Rattle.ob_stream.proofs.Trying.{both_none}
use Rattle.ob_desk.proofs.FaultLemmas.{memory-no-store}
use Rattle.ob_desk.proofs.RunLemmas.{fails-first}
use Rattle.ob_desk.proofs.stream.serve_stream.Goals as goal

pub returns-in_err-ahead-clause-fails : goal.returns-in_err-ahead-clause-fails
returns-in_err-ahead-clause-fails g c =
    let p = err_from_is_err_and c.from_residual.result c.from_residual.ensures.1 in
    rw (p.1, p.2, c.in_err-ahead.ensures.fault) (fails-first _ _ _ c.args.reader.now c.args.writer.now c.args.keeper.now)

pub returns-in_default-clause-fails : goal.returns-in_default-clause-fails
returns-in_default-clause-fails g c = fails-first _ _ _ c.args.reader.now c.args.writer.now c.args.keeper.now

pub returns-in_err-ahead-clause-tells : goal.returns-in_err-ahead-clause-tells
returns-in_err-ahead-clause-tells g c =
    let p = err_from_is_err_and c.from_residual.result c.from_residual.ensures.1 in
    rw (p.1, p.2, c.in_err-ahead.ensures.fault) (tells_nothing c.args.keeper.now c.args.keeper.now _ refl memory-no-store)

pub returns-in_default-clause-tells : goal.returns-in_default-clause-tells
returns-in_default-clause-tells g c = tells_nothing c.args.keeper.now c.args.keeper.now _ refl memory-no-store

pub returns-clause-tells : goal.returns-clause-tells
returns-clause-tells g c = c.serve_requests.ensures.tells

pub returns-in_err-ahead-clause-tries : goal.returns-in_err-ahead-clause-tries
returns-in_err-ahead-clause-tries g c =
    let p = err_from_is_err_and c.from_residual.result c.from_residual.ensures.1 in
    rw p.1 (65536, inl (both_none 65536 c.args.reader.now c.args.writer.now))

pub returns-in_default-clause-tries : goal.returns-in_default-clause-tries
returns-in_default-clause-tries g c = (65536, inl (both_none 65536 c.args.reader.now c.args.writer.now))

pub returns-clause-tries : goal.returns-clause-tries
returns-clause-tries g c = c.serve_requests.ensures.tries

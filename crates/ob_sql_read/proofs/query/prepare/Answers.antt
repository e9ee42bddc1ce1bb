use Rattle.std.proofs.Common.{[], inl}
use Rattle.sqlite.specs.Held.{state}
use Rattle.ob_sql_read.proofs.Asking.{missed, no_outline, not_understood}
use Rattle.ob_sql_read.proofs.Kept.{kept_still, not_run}
use Rattle.ob_sql_rows.proofs.Failing.{not_run as not_asked, stop_cause}
use Rattle.ob_sql_read.proofs.query.prepare.Goals as goal

pub returns-in-Err-clause-foreign : goal.returns-in-Err-clause-foreign
returns-in-Err-clause-foreign g c clean bad =
    not_understood (state g.S.Store c.args.conn.now) (state g.S.Store c.prepare.new.self) c.args.sql.now [] c.in-Err.error (c.stop_of_prepare.ensures.foreign bad) (c.in-Err.ensures.err clean [])

pub returns-in-Err-clause-missed : goal.returns-in-Err-clause-missed
returns-in-Err-clause-missed g c clean none =
    missed (state g.S.Store c.args.conn.now) (state g.S.Store c.prepare.new.self) c.args.sql.now [] c.in-Err.error c.stop_of_prepare.result c.stop_of_prepare.ensures.missed c.stop_of_prepare.ensures.memory.0 none (c.in-Err.ensures.err clean [])

pub returns-in-Ok-clause-missed : goal.returns-in-Ok-clause-missed
returns-in-Ok-clause-missed g c clean none = no_outline _ _ none (c.in-Ok.ensures.shape clean)

pub returns-in-Ok-clause-kept : goal.returns-in-Ok-clause-kept
returns-in-Ok-clause-kept g c v t keeps =
    kept_still v (state g.S.Store c.args.conn.now) (state g.S.Store c.prepare.new.self) t (λ clean. inl (c.in-Ok.ensures.ok clean).1) c.prepare.ensures.survives keeps

pub returns-in-Err-clause-kept : goal.returns-in-Err-clause-kept
returns-in-Err-clause-kept g c v t keeps =
    let old = state g.S.Store c.args.conn.now in
    let new = state g.S.Store c.prepare.new.self in
    kept_still v old new t (λ clean. not_run old new c.args.sql.now [] c.in-Err.error (c.in-Err.ensures.err clean [])) c.prepare.ensures.survives keeps

pub returns-in-Err-clause-cause : goal.returns-in-Err-clause-cause
returns-in-Err-clause-cause g c clean is =
    let old = state g.S.Store c.args.conn.now in
    let new = state g.S.Store c.prepare.new.self in
    stop_cause old new c.in-Err.error c.stop_of_prepare.result c.stop_of_prepare.ensures.memory.0 (not_asked old new c.args.sql.now [] c.in-Err.error is (c.in-Err.ensures.err clean []))

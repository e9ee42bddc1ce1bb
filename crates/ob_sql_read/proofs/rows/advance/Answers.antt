use Rattle.std.proofs.Common.{[], inl}
use Rattle.sqlite.specs.Held.{state}
use Rattle.ob_sql_read.proofs.Kept.{failed_still, kept_still}
use Rattle.ob_sql_rows.proofs.Failing.{not_answered, stop_cause}
use Rattle.ob_sql_read.proofs.rows.advance.Goals as goal

pub returns-in-Ok-clause-kept : goal.returns-in-Ok-clause-kept
returns-in-Ok-clause-kept g c v t keeps =
    kept_still v (state g.S.Store c.args.rows.now.conn.now) (state g.S.Store c.advance.new.self.conn.now) t (λ clean. inl (c.in-Ok.ensures.same clean)) c.advance.ensures.survives keeps

pub returns-in-Err-clause-kept : goal.returns-in-Err-clause-kept
returns-in-Err-clause-kept g c v t keeps =
    let old = state g.S.Store c.args.rows.now.conn.now in
    let new = state g.S.Store c.advance.new.self.conn.now in
    kept_still v old new t (λ clean. failed_still old new c.in-Err.error (c.in-Err.ensures.kept clean)) c.advance.ensures.survives keeps

pub returns-in-Err-clause-cause : goal.returns-in-Err-clause-cause
returns-in-Err-clause-cause g c clean text is given it =
    let old = state g.S.Store c.args.rows.now.conn.now in
    let new = state g.S.Store c.advance.new.self.conn.now in
    stop_cause old new c.in-Err.error c.stop_of.result c.stop_of.ensures.memory (not_answered old new text [] c.in-Err.error is (c.in-Err.ensures.err clean text [] given it))

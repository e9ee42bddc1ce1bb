use Rattle.std.proofs.Common.{[], inl}
use Rattle.sqlite.specs.Held.{state}
use Rattle.ob_sql_rows.specs.declared.version.Version.TheVariants.{Two}
use Rattle.ob_sql_rows.proofs.Failing.{not_answered, stop_cause}
use Rattle.ob_sql_read.specs.Moves.{moved_listing}
use Rattle.ob_sql_read.proofs.Failing.{answered_over}
use Rattle.ob_sql_read.proofs.Rowing.{moved_is}
use Rattle.ob_store.proofs.Handing.{keeps_after, spared_failing}
use Rattle.ob_store.proofs.moving.advance.Goals as goal

pub returns-in-Ok-clause-kept : goal.returns-in-Ok-clause-kept
returns-in-Ok-clause-kept g c t keeps =
    keeps_after (state g.S.Store c.args.rows.now.conn.now) (state g.S.Store c.advance.new.self.conn.now) c.advance.ensures.survives (λ clean. inl (c.in-Ok.ensures.same clean)) t keeps

pub returns-in-Err-clause-kept : goal.returns-in-Err-clause-kept
returns-in-Err-clause-kept g c t keeps =
    keeps_after (state g.S.Store c.args.rows.now.conn.now) (state g.S.Store c.advance.new.self.conn.now) c.advance.ensures.survives (λ clean. spared_failing _ _ c.in-Err.error (c.in-Err.ensures.kept clean)) t keeps

pub returns-in-Err-clause-cause : goal.returns-in-Err-clause-cause
returns-in-Err-clause-cause g c clean has given it =
    let old = state g.S.Store c.args.rows.now.conn.now in
    let new = state g.S.Store c.advance.new.self.conn.now in
    stop_cause old new c.in-Err.error c.stop_of.result c.stop_of.ensures.memory
    (not_answered old new moved_listing.text [] c.in-Err.error (answered_over moved_listing (moved_is Two) has) (c.in-Err.ensures.err clean moved_listing.text [] given it))

use Rattle.std.proofs.Common.{[], inl, sym, ◌∙◌, arith}
use Rattle.sqlite.specs.Held.{state}
use Rattle.sqlite.specs.State.{HasCleanDisk}
use Rattle.ob_sql_read.proofs.Asking.{listing_quiet, listing_whole, never_clean, shown_before, shown_unchanged}
use Rattle.ob_sql_read.proofs.Kept.{kept_asked, unread}
use Rattle.ob_sql_read.proofs.Failing.{asked_cause}
use Rattle.ob_sql_read.proofs.query.list_all.Goals as goal

pub returns-in-Ok-query_all-clause-survives : goal.returns-in-Ok-query_all-clause-survives
returns-in-Ok-query_all-clause-survives g c schema l means text =
    let old = state g.S.Store c.args.conn.now in
    let mid = state g.S.Store c.prepare.new.conn in
    let new = state g.S.Store c.query_all.new.conn in
    listing_quiet l means old mid new c.in-Ok.statement.text (λ clean. let it = c.in-Ok.ensures.prepared clean in (it.0 ∙ sym text, it.1)) c.prepare.ensures.survives c.query_all.ensures.survives

pub returns-in-Ok-query_all-clause-listed : goal.returns-in-Ok-query_all-clause-listed
returns-in-Ok-query_all-clause-listed g c late schema l means text has =
    let old = state g.S.Store c.args.conn.now in
    let mid = state g.S.Store c.prepare.new.conn in
    let new = state g.S.Store c.query_all.new.conn in
    let early : HasCleanDisk mid = omega (arith, c.query_all.ensures.survives.clean, late) in
    listing_whole l means old mid new c.in-Ok.statement.text (λ clean. let it = c.in-Ok.ensures.prepared clean in (it.0 ∙ sym text, it.1)) has early c.in-Ok-query_all.rows.items (c.in-Ok-query_all.ensures.ok late)

pub returns-clause-survives : goal.returns-clause-survives
returns-clause-survives g c schema l means text =
    let old = state g.S.Store c.args.conn.now in
    let mid = state g.S.Store c.prepare.new.conn in
    let new = state g.S.Store c.query_all.new.conn in
    listing_quiet l means old mid new c.in-Ok.statement.text (λ clean. let it = c.in-Ok.ensures.prepared clean in (it.0 ∙ sym text, it.1)) c.prepare.ensures.survives c.query_all.ensures.survives

pub returns-in-Ok-query_all-clause-missed : goal.returns-in-Ok-query_all-clause-missed
returns-in-Ok-query_all-clause-missed g c none =
    let old = state g.S.Store c.args.conn.now in
    let mid = state g.S.Store c.prepare.new.conn in
    let new = state g.S.Store c.query_all.new.conn in
    let never : HasCleanDisk new → ⊥ = λ late. let early : HasCleanDisk mid = omega (arith, c.query_all.ensures.survives.clean, late) in c.in-Ok.ensures.missed early none in
    (never_clean old mid new _ c.prepare.ensures.survives c.query_all.ensures.survives never, λ late. absurd (never late))

pub returns-clause-missed : goal.returns-clause-missed
returns-clause-missed g c none =
    let old = state g.S.Store c.args.conn.now in
    let mid = state g.S.Store c.prepare.new.conn in
    let new = state g.S.Store c.query_all.new.conn in
    let never : HasCleanDisk new → ⊥ = λ late. let early : HasCleanDisk mid = omega (arith, c.query_all.ensures.survives.clean, late) in c.in-Ok.ensures.missed early none in
    (never_clean old mid new _ c.prepare.ensures.survives c.query_all.ensures.survives never, λ late. absurd (never late))

pub returns-in-Ok-query_all-clause-kept : goal.returns-in-Ok-query_all-clause-kept
returns-in-Ok-query_all-clause-kept g c v l means text t keeps =
    let old = state g.S.Store c.args.conn.now in
    let mid = state g.S.Store c.prepare.new.conn in
    let new = state g.S.Store c.query_all.new.conn in
    let sql = c.in-Ok.statement.text in
    kept_asked v l means old mid new sql (λ clean. let it = c.in-Ok.ensures.prepared clean in (it.0 ∙ sym text, it.1)) t keeps c.prepare.ensures.survives c.query_all.ensures.survives
    (λ late plain. inl (shown_unchanged sql [] mid new c.in-Ok-query_all.rows.items plain (c.in-Ok-query_all.ensures.ok late)))

pub returns-clause-kept : goal.returns-clause-kept
returns-clause-kept g c v l means text t keeps =
    let old = state g.S.Store c.args.conn.now in
    let mid = state g.S.Store c.prepare.new.conn in
    let new = state g.S.Store c.query_all.new.conn in
    let sql = c.in-Ok.statement.text in
    kept_asked v l means old mid new sql (λ clean. let it = c.in-Ok.ensures.prepared clean in (it.0 ∙ sym text, it.1)) t keeps c.prepare.ensures.survives c.query_all.ensures.survives
    (λ late plain. unread mid new sql [] c.in-Err-query_all.error (c.in-Err-query_all.ensures.err late))

pub returns-clause-cause : goal.returns-clause-cause
returns-clause-cause g c late is =
    let old = state g.S.Store c.args.conn.now in
    let mid = state g.S.Store c.prepare.new.conn in
    let new = state g.S.Store c.query_all.new.conn in
    let early : HasCleanDisk mid = omega (arith, c.query_all.ensures.survives.clean, late) in
    asked_cause old mid new _ c.args.sql.now c.in-Ok.statement.text c.in-Err-query_all.error c.stop_of.result c.stop_of.ensures.memory is (c.in-Ok.ensures.prepared early) c.prepare.ensures.survives early c.query_all.ensures.survives
    (c.in-Err-query_all.ensures.err late)

pub returns-in-Ok-query_all-clause-shown : goal.returns-in-Ok-query_all-clause-shown
returns-in-Ok-query_all-clause-shown g c late silent =
    let old = state g.S.Store c.args.conn.now in
    let mid = state g.S.Store c.prepare.new.conn in
    let new = state g.S.Store c.query_all.new.conn in
    let early : HasCleanDisk mid = omega (arith, c.query_all.ensures.survives.clean, late) in
    shown_before old mid new c.args.sql.now c.in-Ok.statement.text c.in-Ok-query_all.rows.items silent (c.in-Ok.ensures.prepared early) (c.in-Ok-query_all.ensures.ok late)

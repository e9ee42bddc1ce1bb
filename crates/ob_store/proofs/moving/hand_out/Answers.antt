use Rattle.std.proofs.Common.{◌≡◌, ℕ, [], Err, sym, subst, arith, rules}
use Rattle.sqlite.specs.State.{HasCleanDisk, Survives}
use Rattle.sqlite.specs.Held.{state}
use Rattle.ob_record.specs.Tables.{tables_of}
use Rattle.ob_sql_write.specs.Keeps.{Keeps}
use Rattle.ob_sql_read.specs.Moves.{moved_listing}
use Rattle.ob_sql_read.proofs.Listing.{begins, still_then}
use Rattle.ob_sql_read.proofs.Rowing.{moved_is}
use Rattle.ob_sql_rows.specs.declared.version.Version.TheVariants.{Two}
use Rattle.ob_sql_rows.proofs.Failing.{not_run, stop_cause}
use Rattle.ob_sql_write.proofs.Failing.{keeper_cause}
use Rattle.ob_sql_read.proofs.Failing.{answered_over, asked_cause}
use Rattle.ob_store.specs.MovingOut.{HasHaltCause}
use Rattle.ob_store.proofs.Handing.{begun_keeps, halt_after, keeps_after, query_keeps, query_survives, spared_unasked, spared_unread}
use Rattle.ob_store.proofs.moving.hand_out.Goals as goal

pub returns-in-Ok-query_prepared-clause-survives : goal.returns-in-Ok-query_prepared-clause-survives
returns-in-Ok-query_prepared-clause-survives g c =
    let old = state g.S.Store c.args.conn.now in
    let mid = state g.S.Store c.prepare.new.self in
    let start = state g.S.Store c.in-Ok-query_prepared.rows.conn.now in
    let last = c.hand_rows.new.rows.conn.now in
    let same : last ≡ c.conn-1.given.0 = search rules in
    let begun = query_survives old mid start c.in-Ok.statement.text c.in-Ok.ensures.ok c.prepare.ensures.survives c.in-Ok-query_prepared.ensures.survives in
    subst (λ x. Survives old (state g.S.Store x) (λ _. ⊥)) same (still_then old start (state g.S.Store last) begun c.hand_rows.ensures.survives)

pub returns-in-Ok-query_prepared-clause-kept : goal.returns-in-Ok-query_prepared-clause-kept
returns-in-Ok-query_prepared-clause-kept g c b keeps =
    let old = state g.S.Store c.args.conn.now in
    let mid = state g.S.Store c.prepare.new.self in
    let start = state g.S.Store c.in-Ok-query_prepared.rows.conn.now in
    let last = c.hand_rows.new.rows.conn.now in
    let same : last ≡ c.conn-1.given.0 = search rules in
    let begun = begun_keeps old mid start c.in-Ok.statement.text c.in-Ok.ensures.ok c.prepare.ensures.survives c.in-Ok-query_prepared.ensures.survives (λ clean has.
    let early : HasCleanDisk mid = omega (arith, c.in-Ok-query_prepared.ensures.survives.clean, clean) in
    (begins g.S.Store moved_listing (moved_is Two) c.args.conn.now c.prepare.new.self c.in-Ok-query_prepared.rows.conn.now c.in-Ok.statement.text (c.in-Ok.ensures.ok early) has (c.in-Ok-query_prepared.ensures.begun clean)).1) (tables_of b) keeps.kept in
    record { kept = subst (λ x. Keeps (state g.S.Store x) (tables_of b)) same (c.hand_rows.ensures.kept (tables_of b) begun); reached = keeps.reached; valid = keeps.valid }

pub returns-in-Ok-query_prepared-clause-hands : goal.returns-in-Ok-query_prepared-clause-hands
returns-in-Ok-query_prepared-clause-hands g c clean b keeps =
    let old = state g.S.Store c.args.conn.now in
    let mid = state g.S.Store c.prepare.new.self in
    let start = state g.S.Store c.in-Ok-query_prepared.rows.conn.now in
    let last = c.hand_rows.new.rows.conn.now in
    let same : last ≡ c.conn-1.given.0 = search rules in
    let late : HasCleanDisk (state g.S.Store last) = subst (λ x. HasCleanDisk (state g.S.Store x)) (sym same) clean in
    let begun : HasCleanDisk start = omega (arith, c.hand_rows.ensures.survives.clean, late) in
    let early : HasCleanDisk mid = omega (arith, c.in-Ok-query_prepared.ensures.survives.clean, begun) in
    let first : HasCleanDisk old = omega (arith, c.prepare.ensures.survives.clean, early) in
    let prepared = c.in-Ok.ensures.ok early in
    let has = (keeps.kept.settled first prepared.1.0.was_open).schema in
    let it = begins g.S.Store moved_listing (moved_is Two) c.args.conn.now c.prepare.new.self c.in-Ok-query_prepared.rows.conn.now c.in-Ok.statement.text prepared has (c.in-Ok-query_prepared.ensures.begun begun) in
    let kept = begun_keeps old mid start c.in-Ok.statement.text c.in-Ok.ensures.ok c.prepare.ensures.survives c.in-Ok-query_prepared.ensures.survives (λ _ _. it.1) (tables_of b) keeps.kept in
    c.hand_rows.ensures.hands late b (record { kept = kept; reached = keeps.reached; valid = keeps.valid }) it.1.0.is_open it.0

pub returns-clause-survives : goal.returns-clause-survives
returns-clause-survives g c =
    let old = state g.S.Store c.args.conn.now in
    let mid = state g.S.Store c.prepare.new.self in
    let end = state g.S.Store c.query_prepared.follows.lender-at-none in
    query_survives old mid end c.in-Ok.statement.text c.in-Ok.ensures.ok c.prepare.ensures.survives (rw c.in-Err-query_prepared.is at c.query_prepared.follows.holds-at-none).survives

pub returns-clause-kept : goal.returns-clause-kept
returns-clause-kept g c b keeps =
    let old = state g.S.Store c.args.conn.now in
    let mid = state g.S.Store c.prepare.new.self in
    let end = state g.S.Store c.query_prepared.follows.lender-at-none in
    let refused = rw c.in-Err-query_prepared.is at c.query_prepared.follows.holds-at-none in
    record {
      kept = query_keeps old mid end c.in-Ok.statement.text c.in-Ok.ensures.ok c.prepare.ensures.survives refused.survives (λ clean. spared_unasked mid end c.in-Ok.statement.text [] _ (refused.err clean)) (tables_of b) keeps.kept;
      reached = keeps.reached;
      valid = keeps.valid;
    }

pub returns-in-Err-clause-kept : goal.returns-in-Err-clause-kept
returns-in-Err-clause-kept g c b keeps =
    let old = state g.S.Store c.args.conn.now in
    let mid = state g.S.Store c.prepare.new.self in
    record { kept = keeps_after old mid c.prepare.ensures.survives (λ clean. spared_unread old mid _ [] _ (c.in-Err.ensures.err clean [])) (tables_of b) keeps.kept; reached = keeps.reached; valid = keeps.valid }

pub returns-in-Ok-query_prepared-clause-cause : goal.returns-in-Ok-query_prepared-clause-cause
returns-in-Ok-query_prepared-clause-cause g c clean b keeps =
    let old = state g.S.Store c.args.conn.now in
    let mid = state g.S.Store c.prepare.new.self in
    let start = state g.S.Store c.in-Ok-query_prepared.rows.conn.now in
    let last = c.hand_rows.new.rows.conn.now in
    let same : last ≡ c.conn-1.given.0 = search rules in
    let late : HasCleanDisk (state g.S.Store last) = subst (λ x. HasCleanDisk (state g.S.Store x)) (sym same) clean in
    let begun : HasCleanDisk start = omega (arith, c.hand_rows.ensures.survives.clean, late) in
    let early : HasCleanDisk mid = omega (arith, c.in-Ok-query_prepared.ensures.survives.clean, begun) in
    let first : HasCleanDisk old = omega (arith, c.prepare.ensures.survives.clean, early) in
    let prepared = c.in-Ok.ensures.ok early in
    let has = (keeps.kept.settled first prepared.1.0.was_open).schema in
    let it = begins g.S.Store moved_listing (moved_is Two) c.args.conn.now c.prepare.new.self c.in-Ok-query_prepared.rows.conn.now c.in-Ok.statement.text prepared has (c.in-Ok-query_prepared.ensures.begun begun) in
    let kept = begun_keeps old mid start c.in-Ok.statement.text c.in-Ok.ensures.ok c.prepare.ensures.survives c.in-Ok-query_prepared.ensures.survives (λ _ _. it.1) (tables_of b) keeps.kept in
    let ran = query_survives old mid start c.in-Ok.statement.text c.in-Ok.ensures.ok c.prepare.ensures.survives c.in-Ok-query_prepared.ensures.survives in
    subst (λ x. HasHaltCause old (state g.S.Store x) c.hand_rows.result) same
    (halt_after old start (state g.S.Store last) _ _ c.hand_rows.result ran begun c.hand_rows.ensures.survives
    (c.hand_rows.ensures.cause late b (c.few_moves_law.ensures b keeps.reached) (record { kept = kept; reached = keeps.reached; valid = keeps.valid }) it.1.0.is_open it.0))

pub returns-clause-cause : goal.returns-clause-cause
returns-clause-cause g c clean b keeps =
    let old = state g.S.Store c.args.conn.now in
    let mid = state g.S.Store c.prepare.new.self in
    let end = state g.S.Store c.query_prepared.follows.lender-at-none in
    let refused = rw c.in-Err-query_prepared.is at c.query_prepared.follows.holds-at-none in
    let early : HasCleanDisk mid = omega (arith, refused.survives.clean, clean) in
    let first : HasCleanDisk old = omega (arith, c.prepare.ensures.survives.clean, early) in
    let prepared = c.in-Ok.ensures.ok early in
    let has = (keeps.kept.settled first prepared.1.0.was_open).schema in
    asked_cause old mid end _ moved_listing.text c.in-Ok.statement.text c.in-Err-query_prepared.error c.stop_of-in-Err-query_prepared.result c.stop_of-in-Err-query_prepared.ensures.memory (answered_over moved_listing (moved_is Two) has) prepared
    c.prepare.ensures.survives early refused.survives (refused.err clean)

pub returns-in-Err-clause-cause : goal.returns-in-Err-clause-cause
returns-in-Err-clause-cause g c clean b keeps =
    let old = state g.S.Store c.args.conn.now in
    let mid = state g.S.Store c.prepare.new.self in
    let first : HasCleanDisk old = omega (arith, c.prepare.ensures.survives.clean, clean) in
    keeper_cause {X = ℕ} old mid (tables_of b) (Err c.stop_of.result) first keeps.kept
    (λ has. stop_cause old mid c.in-Err.error c.stop_of.result c.stop_of.ensures.memory (not_run old mid moved_listing.text [] c.in-Err.error (answered_over moved_listing (moved_is Two) has) (c.in-Err.ensures.err clean [])))

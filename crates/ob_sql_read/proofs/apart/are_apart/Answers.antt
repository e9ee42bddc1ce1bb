use Rattle.std.proofs.Common.{◌≡◌, [], inl, sym, ap, subst, ◌∙◌, arith, rules}
use Rattle.std.specs.Prelude.{◌↔◌, IsTrue}
use Rattle.sqlite.specs.Effect.{Database}
use Rattle.sqlite.specs.State.{HasCleanDisk, IsUnchanged, Survives}
use Rattle.sqlite.specs.Held.{state}
use Rattle.sqlite.proofs.Callers.{begun_plain, unchanged_then}
use Rattle.ob_sql_rows.specs.Rows.{AreApart}
use Rattle.ob_sql_rows.specs.Versions.{schema_of}
use Rattle.ob_sql_write.proofs.Steps.{on_ok}
use Rattle.ob_sql_write.specs.Keeps.{KeepsIn}
use Rattle.ob_sql_read.specs.Apart.{number_text}
use Rattle.ob_sql_read.proofs.Kept.{kept_still, kept_text, not_run, unread}
use Rattle.ob_sql_read.proofs.Listing.{still_then}
use Rattle.ob_sql_read.proofs.NumberQuery.{numbers_answered, numbers_plain, numbers_silent}
use Rattle.ob_sql_read.proofs.Rowing.{if_ok}
use Rattle.ob_sql_read.proofs.Texts.{begins_empty, commits_none}
use Rattle.ob_sql_rows.specs.Queries.{IsAlwaysAnswered}
use Rattle.ob_sql_rows.specs.Steps.{HasFaultCause}
use Rattle.ob_sql_rows.proofs.Failing.{cause_after, not_run as not_asked, stop_cause}
use Rattle.ob_sql_read.proofs.Failing.{asked_cause}
use Rattle.ob_sql_read.proofs.apart.are_apart.Goals as goal

pub returns-in-Ok-query_prepared-clause-survives : goal.returns-in-Ok-query_prepared-clause-survives
returns-in-Ok-query_prepared-clause-survives g c =
    let old = state g.S.Store c.args.conn.now in
    let mid = state g.S.Store c.prepare.new.self in
    let start = state g.S.Store c.in-Ok-query_prepared.rows.conn.now in
    let last = c.rise.new.rows.conn.now in
    let same : last ≡ c.conn-1.given.0 = search rules in
    subst (λ x. Survives old (state g.S.Store x) (λ _. ⊥)) same
    (still_then old start (state g.S.Store last) (still_then old mid start c.prepare.ensures.survives (commits_none number_text numbers_silent old mid start c.in-Ok.statement.text c.in-Ok.ensures.ok c.in-Ok-query_prepared.ensures.survives)) c.rise.ensures.survives)

pub returns-in-Ok-query_prepared-clause-same : goal.returns-in-Ok-query_prepared-clause-same
returns-in-Ok-query_prepared-clause-same g c clean =
    let old = c.args.conn.now in
    let mid = c.prepare.new.self in
    let start = c.in-Ok-query_prepared.rows.conn.now in
    let last = c.rise.new.rows.conn.now in
    let same : last ≡ c.conn-1.given.0 = search rules in
    let late : HasCleanDisk (state g.S.Store last) = subst (λ x. HasCleanDisk (state g.S.Store x)) (sym same) clean in
    let begun : HasCleanDisk (state g.S.Store start) = omega (arith, c.rise.ensures.survives.clean, late) in
    let early : HasCleanDisk (state g.S.Store mid) = omega (arith, c.in-Ok-query_prepared.ensures.survives.clean, begun) in
    on_ok c.rise.result (c.rise.ensures.same late) (λ step v has.
    let b = begins_empty (schema_of v) number_text (numbers_plain v) g.S.Store old mid start c.in-Ok.statement.text (c.in-Ok.ensures.ok early) has (c.in-Ok-query_prepared.ensures.begun begun) in
    subst (λ x. IsUnchanged (state g.S.Store old) (state g.S.Store x)) same (unchanged_then (state g.S.Store old) (state g.S.Store start) (state g.S.Store last) b.1 (step b.1.0.is_open)))

pub returns-in-Ok-query_prepared-clause-apart : goal.returns-in-Ok-query_prepared-clause-apart
returns-in-Ok-query_prepared-clause-apart g c clean =
    let old = c.args.conn.now in
    let mid = c.prepare.new.self in
    let start = c.in-Ok-query_prepared.rows.conn.now in
    let last = c.rise.new.rows.conn.now in
    let same : last ≡ c.conn-1.given.0 = search rules in
    let late : HasCleanDisk (state g.S.Store last) = subst (λ x. HasCleanDisk (state g.S.Store x)) (sym same) clean in
    let begun : HasCleanDisk (state g.S.Store start) = omega (arith, c.rise.ensures.survives.clean, late) in
    let early : HasCleanDisk (state g.S.Store mid) = omega (arith, c.in-Ok-query_prepared.ensures.survives.clean, begun) in
    if_ok c.rise.result (c.rise.ensures.apart late) (λ is tells v has.
    let b = begins_empty (schema_of v) number_text (numbers_plain v) g.S.Store old mid start c.in-Ok.statement.text (c.in-Ok.ensures.ok early) has (c.in-Ok-query_prepared.ensures.begun begun) in
    subst (λ (d : Database). IsTrue is ↔ AreApart (d.trees 14)) b.1.0.now_is (tells b.1.0.is_open v (ap (λ (d : Database). d.schema) b.1.0.now_is ∙ has) b.0))

pub returns-clause-survives : goal.returns-clause-survives
returns-clause-survives g c =
    let old = state g.S.Store c.args.conn.now in
    let mid = state g.S.Store c.prepare.new.self in
    let end = state g.S.Store c.query_prepared.follows.lender-at-none in
    still_then old mid end c.prepare.ensures.survives
    (commits_none number_text numbers_silent old mid end c.in-Ok.statement.text c.in-Ok.ensures.ok (rw c.in-Err-query_prepared.is at c.query_prepared.follows.holds-at-none).survives)

pub returns-in-Ok-query_prepared-clause-clean : goal.returns-in-Ok-query_prepared-clause-clean
returns-in-Ok-query_prepared-clause-clean g c clean =
    let last = c.rise.new.rows.conn.now in
    let same : last ≡ c.conn-1.given.0 = search rules in
    let late : HasCleanDisk (state g.S.Store last) = subst (λ x. HasCleanDisk (state g.S.Store x)) (sym same) clean in
    omega (arith, c.prepare.ensures.survives.clean, c.in-Ok-query_prepared.ensures.survives.clean, c.rise.ensures.survives.clean, late)

pub returns-clause-clean : goal.returns-clause-clean
returns-clause-clean g c clean = omega (arith, c.prepare.ensures.survives.clean, (rw c.in-Err-query_prepared.is at c.query_prepared.follows.holds-at-none).survives.clean, clean)

pub returns-in-Err-clause-kept : goal.returns-in-Err-clause-kept
returns-in-Err-clause-kept g c v t keeps =
    let old = state g.S.Store c.args.conn.now in
    let mid = state g.S.Store c.prepare.new.self in
    kept_still v old mid t (λ clean. not_run old mid _ [] c.in-Err.error (c.in-Err.ensures.err clean [])) c.prepare.ensures.survives keeps

pub returns-in-Ok-query_prepared-clause-kept : goal.returns-in-Ok-query_prepared-clause-kept
returns-in-Ok-query_prepared-clause-kept g c v t keeps =
    let old = c.args.conn.now in
    let mid = c.prepare.new.self in
    let start = c.in-Ok-query_prepared.rows.conn.now in
    let last = c.rise.new.rows.conn.now in
    let text = c.in-Ok.statement.text in
    let same : last ≡ c.conn-1.given.0 = search rules in
    let begun = kept_text v number_text (numbers_plain v) (state g.S.Store old) (state g.S.Store mid) (state g.S.Store start) text c.in-Ok.ensures.ok t keeps c.prepare.ensures.survives c.in-Ok-query_prepared.ensures.survives
    (λ late plain. inl (begun_plain g.S.Store text [] mid start plain (c.in-Ok-query_prepared.ensures.begun late)).1) in
    subst (λ x. KeepsIn v (state g.S.Store x) t) same (c.rise.ensures.kept v t begun)

pub returns-clause-kept : goal.returns-clause-kept
returns-clause-kept g c v t keeps =
    let old = state g.S.Store c.args.conn.now in
    let mid = state g.S.Store c.prepare.new.self in
    let end = state g.S.Store c.query_prepared.follows.lender-at-none in
    let text = c.in-Ok.statement.text in
    let refused = rw c.in-Err-query_prepared.is at c.query_prepared.follows.holds-at-none in
    kept_text v number_text (numbers_plain v) old mid end text c.in-Ok.ensures.ok t keeps c.prepare.ensures.survives refused.survives
    (λ late plain. unread mid end text [] c.in-Err-query_prepared.error (refused.err late))

pub returns-in-Ok-query_prepared-clause-cause : goal.returns-in-Ok-query_prepared-clause-cause
returns-in-Ok-query_prepared-clause-cause g c clean v has =
    let old = c.args.conn.now in
    let mid = c.prepare.new.self in
    let start = c.in-Ok-query_prepared.rows.conn.now in
    let last = c.rise.new.rows.conn.now in
    let same : last ≡ c.conn-1.given.0 = search rules in
    let late : HasCleanDisk (state g.S.Store last) = subst (λ x. HasCleanDisk (state g.S.Store x)) (sym same) clean in
    let begun : HasCleanDisk (state g.S.Store start) = omega (arith, c.rise.ensures.survives.clean, late) in
    let early : HasCleanDisk (state g.S.Store mid) = omega (arith, c.in-Ok-query_prepared.ensures.survives.clean, begun) in
    let b = begins_empty (schema_of v) number_text (numbers_plain v) g.S.Store old mid start c.in-Ok.statement.text (c.in-Ok.ensures.ok early) has (c.in-Ok-query_prepared.ensures.begun begun) in
    let first = still_then (state g.S.Store old) (state g.S.Store mid) (state g.S.Store start) c.prepare.ensures.survives (commits_none number_text numbers_silent (state g.S.Store old) (state g.S.Store mid) (state g.S.Store start) c.in-Ok.statement.text c.in-Ok.ensures.ok c.in-Ok-query_prepared.ensures.survives) in
    subst (λ x. HasFaultCause (state g.S.Store old) (state g.S.Store x) c.rise.result) same
    (cause_after (state g.S.Store old) (state g.S.Store start) (state g.S.Store last) _ _ c.rise.result first begun c.rise.ensures.survives
    (c.rise.ensures.cause late b.1.0.is_open v (ap (λ (d : Database). d.schema) b.1.0.now_is ∙ has) b.0))

pub returns-clause-cause : goal.returns-clause-cause
returns-clause-cause g c clean v has =
    let old = state g.S.Store c.args.conn.now in
    let mid = state g.S.Store c.prepare.new.self in
    let end = state g.S.Store c.query_prepared.follows.lender-at-none in
    let refused = rw c.in-Err-query_prepared.is at c.query_prepared.follows.holds-at-none in
    let early : HasCleanDisk mid = omega (arith, refused.survives.clean, clean) in
    asked_cause old mid end _ number_text c.in-Ok.statement.text c.in-Err-query_prepared.error c.stop_of-in-Err-query_prepared.result c.stop_of-in-Err-query_prepared.ensures.memory (subst (λ s. IsAlwaysAnswered s number_text []) (sym has) (numbers_answered v)) (c.in-Ok.ensures.ok early)
    c.prepare.ensures.survives early refused.survives (refused.err clean)

pub returns-in-Err-clause-cause : goal.returns-in-Err-clause-cause
returns-in-Err-clause-cause g c clean v has =
    let old = state g.S.Store c.args.conn.now in
    let new = state g.S.Store c.prepare.new.self in
    stop_cause old new c.in-Err.error c.stop_of.result c.stop_of.ensures.memory
    (not_asked old new number_text [] c.in-Err.error (subst (λ s. IsAlwaysAnswered s number_text []) (sym has) (numbers_answered v)) (c.in-Err.ensures.err clean []))

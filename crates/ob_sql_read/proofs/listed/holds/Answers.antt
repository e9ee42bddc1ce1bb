use Rattle.std.proofs.Common.{◌≡◌, [], Bool, Err, inl, sym, ap, subst, ◌∙◌, arith, rules}
use Rattle.sqlite.specs.Effect.{Database}
use Rattle.sqlite.specs.State.{HasCleanDisk, IsUnchanged}
use Rattle.sqlite.specs.Held.{state}
use Rattle.sqlite.proofs.Callers.{begun_plain, unchanged_then}
use Rattle.ob_sql_rows.specs.Listings.{select_of}
use Rattle.ob_sql_read.specs.Faults.{HasNoMeaning}
use Rattle.ob_sql_read.specs.Parts.{Compares, listing_of, standing}
use Rattle.ob_sql_read.proofs.Asking.{faults_alone, faults_read, foreign_tables, never_clean}
use Rattle.ob_sql_rows.specs.Queries.{IsAlwaysAnswered}
use Rattle.ob_sql_rows.proofs.Failing.{cause_after}
use Rattle.ob_sql_read.proofs.Failing.{answered_over, asked_cause}
use Rattle.ob_sql_read.proofs.Kept.{kept_asked, unread}
use Rattle.ob_sql_read.proofs.Listing.{still_then, quiet, begins}
use Rattle.ob_sql_read.proofs.Places.{rows_alike, if_ok, on_ok}
use Rattle.ob_sql_read.proofs.Selects.{is_listing}
use Rattle.ob_sql_read.proofs.listed.holds.Goals as goal

pub returns-in-Ok-query_prepared : goal.returns-in-Ok-query_prepared
returns-in-Ok-query_prepared g c v own =
    let t = g.L.Listed.table in
    let expected = standing (g.L.Listed.places c.args.listed.now) in
    let at_old = c.args.conn.now in
    let at_mid = c.prepare.new.conn in
    let at_start = c.in-Ok-query_prepared.rows.conn.now in
    let at_last = c.matches.new.rows.conn.now in
    let old = state g.S.Store at_old in
    let mid = state g.S.Store at_mid in
    let start = state g.S.Store at_start in
    let last = state g.S.Store at_last in
    let text = c.in-Ok.statement.text in
    let text_is : c.select_of.result.now ≡ select_of t = c.select_of.ensures ∙ ap select_of c.table.ensures in
    let ready : HasCleanDisk mid → (text ≡ select_of t) × IsUnchanged old mid = λ clean. let it = c.in-Ok.ensures.prepared clean in (it.0 ∙ text_is, it.1) in
    let begun : HasCleanDisk last → HasCleanDisk start = λ clean. omega (arith, c.matches.ensures.survives.clean, clean) in
    let early : HasCleanDisk last → HasCleanDisk mid = λ clean. omega (arith, c.in-Ok-query_prepared.ensures.survives.clean, c.matches.ensures.survives.clean, clean) in
    let same : at_last ≡ c.conn-1.given.0 = search rules in
    subst (λ x. Compares g.S.Store v t expected at_old x c.matches.result) same (record {
      mode = λ idle. c.matches.ensures.mode (c.in-Ok-query_prepared.ensures.mode (c.prepare.ensures.mode idle));
      survives =
          still_then old start last
          (still_then old mid start c.prepare.ensures.survives (quiet (listing_of t) (is_listing v t own) old mid start text ready c.in-Ok-query_prepared.ensures.survives)) c.matches.ensures.survives;
      kept = λ x keeps. c.matches.ensures.kept v x
          (kept_asked v (listing_of t) (is_listing v t own) old mid start text ready x keeps c.prepare.ensures.survives c.in-Ok-query_prepared.ensures.survives
          (λ late plain. inl (begun_plain g.S.Store text [] at_mid at_start plain (c.in-Ok-query_prepared.ensures.begun late)).1));
      clean = λ clean. omega (arith, c.prepare.ensures.survives.clean, c.in-Ok-query_prepared.ensures.survives.clean, c.matches.ensures.survives.clean, clean);
      faults = faults_read c.matches.result c.matches.ensures.faults;
      cause = λ clean has.
          let b = begins g.S.Store (listing_of t) (is_listing v t own) at_old at_mid at_start text (ready (early clean)) has (c.in-Ok-query_prepared.ensures.begun (begun clean)) in
          cause_after old start last _ _ c.matches.result (still_then old mid start c.prepare.ensures.survives (quiet (listing_of t) (is_listing v t own) old mid start text ready c.in-Ok-query_prepared.ensures.survives)) (begun clean) c.matches.ensures.survives
          (c.matches.ensures.cause clean b.1.0.is_open v own (ap (λ (d : Database). d.schema) b.1.0.now_is ∙ has) b.0);
      foreign = λ clean. faults_alone c.matches.result _ c.matches.ensures.faults;
      missed = λ none.
          let never : HasCleanDisk start → ⊥ = λ clean. c.in-Ok.ensures.missed (omega (arith, c.in-Ok-query_prepared.ensures.survives.clean, clean)) (subst (HasNoMeaning old.now.schema) (sym text_is) none) in
          (still_then old start last (never_clean old mid start _ c.prepare.ensures.survives c.in-Ok-query_prepared.ensures.survives never) c.matches.ensures.survives, λ clean. absurd (never (begun clean)));
      same = λ clean.
          on_ok c.matches.result (c.matches.ensures.same clean) (λ step has.
          let b = begins g.S.Store (listing_of t) (is_listing v t own) at_old at_mid at_start text (ready (early clean)) has (c.in-Ok-query_prepared.ensures.begun (begun clean)) in
          unchanged_then old start last b.1 (step b.1.0.is_open));
      holds = λ clean.
          if_ok c.matches.result (c.matches.ensures.holds clean) (λ is tells has rows shown.
          let b = begins g.S.Store (listing_of t) (is_listing v t own) at_old at_mid at_start text (ready (early clean)) has (c.in-Ok-query_prepared.ensures.begun (begun clean)) in
          rows_alike t start.now old.now is expected rows b.1.0.now_is shown (tells b.1.0.is_open v own (ap (λ (d : Database). d.schema) b.1.0.now_is ∙ has) b.0));
    })

pub returns : goal.returns
returns g c v own =
    let t = g.L.Listed.table in
    let old = state g.S.Store c.args.conn.now in
    let mid = state g.S.Store c.prepare.new.conn in
    let end = state g.S.Store c.query_prepared.follows.lender-at-none in
    let text = c.in-Ok.statement.text in
    let text_is : c.select_of.result.now ≡ select_of t = c.select_of.ensures ∙ ap select_of c.table.ensures in
    let ready : HasCleanDisk mid → (text ≡ select_of t) × IsUnchanged old mid = λ clean. let it = c.in-Ok.ensures.prepared clean in (it.0 ∙ text_is, it.1) in
    let refused = rw c.in-Err-query_prepared.is at c.query_prepared.follows.holds-at-none in
    record {
      mode = λ idle. refused.mode (c.prepare.ensures.mode idle);
      survives = still_then old mid end c.prepare.ensures.survives (quiet (listing_of t) (is_listing v t own) old mid end text ready refused.survives);
      kept = λ x keeps. kept_asked v (listing_of t) (is_listing v t own) old mid end text ready x keeps c.prepare.ensures.survives refused.survives (λ late plain. unread mid end text [] c.in-Err-query_prepared.error (refused.err late));
      clean = λ clean. omega (arith, c.prepare.ensures.survives.clean, refused.survives.clean, clean);
      faults = inl c.stop_of.ensures.faults;
      cause = λ clean has.
          let early : HasCleanDisk mid = omega (arith, refused.survives.clean, clean) in
          asked_cause old mid end _ (select_of t) text c.in-Err-query_prepared.error c.stop_of.result c.stop_of.ensures.memory (answered_over (listing_of t) (is_listing v t own) has) (ready early) c.prepare.ensures.survives early refused.survives (refused.err clean);
      foreign = λ clean. faults_alone {X = Bool} (Err c.stop_of.result) _ c.stop_of.ensures.faults;
      missed = λ none.
          let never : HasCleanDisk end → ⊥ = λ clean. c.in-Ok.ensures.missed (omega (arith, refused.survives.clean, clean)) (subst (HasNoMeaning old.now.schema) (sym text_is) none) in
          (never_clean old mid end _ c.prepare.ensures.survives refused.survives never, λ clean. absurd (never clean));
      same = λ clean. tt;
      holds = λ clean. tt;
    }

pub returns-in-Err : goal.returns-in-Err
returns-in-Err g c v own =
    let t = g.L.Listed.table in
    let text_is : c.select_of.result.now ≡ select_of t = c.select_of.ensures ∙ ap select_of c.table.ensures in
    record {
      mode = c.prepare.ensures.mode;
      survives = c.prepare.ensures.survives;
      kept = c.prepare.ensures.kept v;
      clean = λ clean. omega (arith, c.prepare.ensures.survives.clean, clean);
      faults = c.in-Err.ensures.faults;
      cause = λ clean has. c.in-Err.ensures.cause clean (subst (λ x. IsAlwaysAnswered c.args.conn.now.schema x []) (sym text_is) (answered_over (listing_of t) (is_listing v t own) has));
      foreign = λ clean bad. foreign_tables (listing_of t) (is_listing v t own) (state g.S.Store c.args.conn.now) _ (sym text_is) (c.in-Err.ensures.foreign clean bad).0;
      missed = λ none. (c.prepare.ensures.survives, λ clean. c.in-Err.ensures.missed clean (subst (HasNoMeaning c.args.conn.now.schema) (sym text_is) none));
      same = λ clean. tt;
      holds = λ clean. tt;
    }

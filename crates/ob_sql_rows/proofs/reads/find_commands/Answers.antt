use Rattle.std.proofs.Common.{[], ◌∷◌, sym, subst}
use Rattle.sqlite.specs.Held.{state}
use Rattle.sqlite.specs.declared.types.Value.TheVariants.{Text}
use Rattle.ob_sql_rows.specs.Queries.{IsAlwaysAnswered}
use Rattle.ob_sql_rows.proofs.Failing.{not_answered_inside, stop_cause}
use Rattle.ob_sql_rows.proofs.Finding.{find_answered, find_text, finds, stays_as}
use Rattle.ob_sql_rows.proofs.Silence.{kept_read, kept_unread, live_read}
use Rattle.ob_sql_rows.proofs.reads.find_commands.Goals as goal

pub returns-in-Ok-clause-found : goal.returns-in-Ok-clause-found
returns-in-Ok-clause-found g c clean has =
    (finds (state g.S.Store c.args.tx.now.conn.now) (state g.S.Store c.query_all.new.self.conn.now) c.args.reference.now c.in-Ok.rows.items has (c.in-Ok.ensures.ok clean)).1

pub returns-in-Ok-clause-reads : goal.returns-in-Ok-clause-reads
returns-in-Ok-clause-reads g c =
    let old = state g.S.Store c.args.tx.now.conn.now in
    let new = state g.S.Store c.query_all.new.self.conn.now in
    let rows = c.in-Ok.rows.items in
    record {
      same_reference = c.query_all.ensures.same_reference;
      silent = λ inside. record {
        survives = c.query_all.ensures.survives;
        kept = λ clean. kept_read old new _ _ rows inside (c.in-Ok.ensures.ok clean);
      };
      faults = tt;
      live = λ clean. live_read old new _ _ rows (c.in-Ok.ensures.ok clean);
      stays = λ clean has inside. stays_as old new (finds old new c.args.reference.now rows has (c.in-Ok.ensures.ok clean)).0 inside;
    }

pub returns-in-Err-clause-reads : goal.returns-in-Err-clause-reads
returns-in-Err-clause-reads g c =
    let old = state g.S.Store c.args.tx.now.conn.now in
    let new = state g.S.Store c.query_all.new.self.conn.now in
    record {
      same_reference = c.query_all.ensures.same_reference;
      silent = λ inside. record {
        survives = c.query_all.ensures.survives;
        kept = λ clean. kept_unread old new _ _ c.in-Err.error (c.in-Err.ensures.err clean);
      };
      faults = c.stop_of.ensures.faults;
      live = λ clean. tt;
      stays = λ clean. tt;
    }

pub returns-in-Err-clause-cause : goal.returns-in-Err-clause-cause
returns-in-Err-clause-cause g c clean has =
    let old = state g.S.Store c.args.tx.now.conn.now in
    let new = state g.S.Store c.query_all.new.self.conn.now in
    let e = c.in-Err.error in
    let params = Text c.args.reference.now ∷ [] in
    let answered = subst (λ s. IsAlwaysAnswered s find_text params) (sym has) (find_answered c.args.reference.now) in
    stop_cause old new e c.stop_of.result c.stop_of.ensures.memory (not_answered_inside old new find_text params e answered (c.in-Err.ensures.err clean))

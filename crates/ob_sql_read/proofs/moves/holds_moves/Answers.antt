use Rattle.std.proofs.Common.{◌≡◌, [], inl, sym, ap, subst, ◌∙◌, arith, rules, Bool, false, Err, IsTrue, OnOk}
use Rattle.sqlite.specs.Effect.{Database}
use Rattle.sqlite.specs.State.{HasCleanDisk, IsUnchanged}
use Rattle.sqlite.specs.Held.{Held, state}
use Rattle.ob_record.specs.Tables.{Shows}
use Rattle.ob_sql_rows.specs.declared.table.Table.TheVariants.{Moved as MovedTable}
use Rattle.ob_sql_read.specs.Moves.{moved_listing}
use Rattle.ob_sql_read.proofs.Listing.{still_then, quiet}
use Rattle.ob_sql_write.specs.Keeps.{KeepsIn}
use Rattle.ob_sql_read.specs.Faults.{HasNoMeaning}
use Rattle.ob_sql_rows.specs.declared.version.Version.TheVariants.{Two}
use Rattle.ob_sql_read.proofs.Asked.{IsRead, begun_read, cause_read, clean_read, kept_read, missed_read, same_read, survives_read}
use Rattle.ob_sql_read.proofs.Asking.{faults_alone, faults_read, foreign_tables, never_clean}
use Rattle.ob_sql_read.proofs.Passing.{clean_before, error_is_no_value}
use Rattle.ob_sql_read.proofs.Kept.{kept_asked, unread}
use Rattle.ob_sql_read.proofs.Rowing.{if_ok, moved_is}
use Rattle.ob_sql_read.proofs.moves.holds_moves.Given.{Over}
use Rattle.ob_sql_rows.specs.Queries.{IsAlwaysAnswered}
use Rattle.ob_sql_rows.specs.Steps.{HasFaultCause}
use Rattle.ob_sql_read.proofs.Failing.{answered_over, asked_cause}
use Rattle.ob_sql_read.proofs.moves.holds_moves.Goals as goal

-- the connection is given back as the rows left it
given_back : (g : Over) (c : goal.After-drop-statement-inside-in-Ok-query_prepared-2 g) → c.follows.new.rows.conn.now ≡ c.conn-1.given.0
given_back g c = search rules

-- the table's rows were asked for, and read to the end
read_all : (g : Over) (c : goal.After-drop-statement-inside-in-Ok-query_prepared-2 g) → IsRead g.S.Store moved_listing c.args.conn.now c.prepare.new.conn c.in-Ok-query_prepared.rows.conn.now c.conn-1.given.0 c.in-Ok.statement.text
read_all g c =
    subst (λ x. IsRead g.S.Store moved_listing c.args.conn.now c.prepare.new.conn c.in-Ok-query_prepared.rows.conn.now x c.in-Ok.statement.text) (given_back g c) (record {
      prepared = λ clean. let it = c.in-Ok.ensures.prepared clean in (it.0 ∙ c.select_of.ensures, it.1);
      first = c.prepare.ensures.survives;
      asked = c.in-Ok-query_prepared.ensures.survives;
      begun = c.in-Ok-query_prepared.ensures.begun;
      rest = c.follows.ensures.survives;
    })

pub returns-in-Ok-query_prepared-clause-survives : goal.returns-in-Ok-query_prepared-clause-survives
returns-in-Ok-query_prepared-clause-survives g c = survives_read (read_all g c) moved_is

pub returns-in-Ok-query_prepared-clause-same : goal.returns-in-Ok-query_prepared-clause-same
returns-in-Ok-query_prepared-clause-same g c clean =
    let start = state g.S.Store c.in-Ok-query_prepared.rows.conn.now in
    same_read (read_all g c) moved_is c.follows.result clean
    (subst (λ x. HasCleanDisk (state g.S.Store x) → OnOk c.follows.result (IsTrue start.is_open → IsUnchanged start (state g.S.Store x))) (given_back g c) c.follows.ensures.same clean)

pub returns-in-Ok-query_prepared-clause-moved : goal.returns-in-Ok-query_prepared-clause-moved
returns-in-Ok-query_prepared-clause-moved g c clean =
    let late : HasCleanDisk (state g.S.Store c.follows.new.rows.conn.now) = subst (λ x. HasCleanDisk (state g.S.Store x)) (sym (given_back g c)) clean in
    if_ok c.follows.result (c.follows.ensures.moved late) (λ is tells v has table shows.
    let b = begun_read (read_all g c) moved_is clean v has in
    tells b.1.0.is_open v (ap (λ (d : Database). d.schema) b.1.0.now_is ∙ has) b.0 table (subst (λ (d : Database). Shows d.trees MovedTable table) (sym b.1.0.now_is) shows))

pub returns-clause-survives : goal.returns-clause-survives
returns-clause-survives g c =
    let old = state g.S.Store c.args.conn.now in
    let mid = state g.S.Store c.prepare.new.conn in
    let end = state g.S.Store c.query_prepared.follows.lender-at-none in
    still_then old mid end c.prepare.ensures.survives (quiet moved_listing (moved_is Two) old mid end c.in-Ok.statement.text (λ ready. let it = c.in-Ok.ensures.prepared ready in (it.0 ∙ c.select_of.ensures, it.1)) (rw c.in-Err-query_prepared.is at c.query_prepared.follows.holds-at-none).survives)

pub returns-in-Ok-query_prepared-clause-clean : goal.returns-in-Ok-query_prepared-clause-clean
returns-in-Ok-query_prepared-clause-clean g c = clean_read (read_all g c) moved_is

pub returns-clause-clean : goal.returns-clause-clean
returns-clause-clean g c clean = omega (arith, c.prepare.ensures.survives.clean, (rw c.in-Err-query_prepared.is at c.query_prepared.follows.holds-at-none).survives.clean, clean)

pub returns-in-Err-clause-foreign : goal.returns-in-Err-clause-foreign
returns-in-Err-clause-foreign g c clean bad v = foreign_tables moved_listing (moved_is v) (state g.S.Store c.args.conn.now) _ (sym c.select_of.ensures) (c.in-Err.ensures.foreign clean bad).0

pub returns-in-Ok-query_prepared-clause-kept : goal.returns-in-Ok-query_prepared-clause-kept
returns-in-Ok-query_prepared-clause-kept g c v t =
    let start = state g.S.Store c.in-Ok-query_prepared.rows.conn.now in
    kept_read (read_all g c) moved_is v t (subst (λ x. KeepsIn v start t → KeepsIn v (state g.S.Store x) t) (given_back g c) (c.follows.ensures.kept v t))

pub returns-clause-kept : goal.returns-clause-kept
returns-clause-kept g c v t keeps =
    let old = state g.S.Store c.args.conn.now in
    let mid = state g.S.Store c.prepare.new.conn in
    let end = state g.S.Store c.query_prepared.follows.lender-at-none in
    let text = c.in-Ok.statement.text in
    let refused = rw c.in-Err-query_prepared.is at c.query_prepared.follows.holds-at-none in
    kept_asked v moved_listing (moved_is v) old mid end text (λ ready. let it = c.in-Ok.ensures.prepared ready in (it.0 ∙ c.select_of.ensures, it.1)) t keeps c.prepare.ensures.survives refused.survives
    (λ late plain. unread mid end text [] c.in-Err-query_prepared.error (refused.err late))

pub returns-in-Ok-query_prepared-clause-missed : goal.returns-in-Ok-query_prepared-clause-missed
returns-in-Ok-query_prepared-clause-missed g c none =
    missed_read (read_all g c) moved_is c.follows.result (λ clean. c.in-Ok.ensures.missed clean (subst (HasNoMeaning c.args.conn.now.schema) (sym c.select_of.ensures) none))

pub returns-clause-missed : goal.returns-clause-missed
returns-clause-missed g c none =
    let old = state g.S.Store c.args.conn.now in
    let mid = state g.S.Store c.prepare.new.conn in
    let end = state g.S.Store c.query_prepared.follows.lender-at-none in
    let refused = rw c.in-Err-query_prepared.is at c.query_prepared.follows.holds-at-none in
    let never : HasCleanDisk end → ⊥ = λ clean. c.in-Ok.ensures.missed (omega (arith, refused.survives.clean, clean)) (subst (HasNoMeaning old.now.schema) (sym c.select_of.ensures) none) in
    (never_clean old mid end _ c.prepare.ensures.survives refused.survives never, λ clean. absurd (never clean))

pub returns-in-Err-clause-missed : goal.returns-in-Err-clause-missed
returns-in-Err-clause-missed g c none =
    (c.prepare.ensures.survives, λ clean. c.in-Err.ensures.missed clean (subst (HasNoMeaning c.args.conn.now.schema) (sym c.select_of.ensures) none))

pub returns-in-Err-clause-mode : goal.returns-in-Err-clause-mode
returns-in-Err-clause-mode g c = c.prepare.ensures.mode

pub returns-in-Err-clause-survives : goal.returns-in-Err-clause-survives
returns-in-Err-clause-survives g c = c.prepare.ensures.survives

pub returns-in-Err-clause-kept : goal.returns-in-Err-clause-kept
returns-in-Err-clause-kept g c = c.prepare.ensures.kept

pub returns-in-Err-clause-clean : goal.returns-in-Err-clause-clean
returns-in-Err-clause-clean g c = clean_before (state g.S.Store c.args.conn.now) (state g.S.Store c.prepare.new.conn) c.prepare.ensures.survives

pub returns-in-Err-clause-faults : goal.returns-in-Err-clause-faults
returns-in-Err-clause-faults g c = c.in-Err.ensures.faults

pub returns-in-Err-clause-book : goal.returns-in-Err-clause-book
returns-in-Err-clause-book g c e = absurd (error_is_no_value e)

pub returns-in-Err-clause-noted : goal.returns-in-Err-clause-noted
returns-in-Err-clause-noted g c e = absurd (error_is_no_value e)

pub returns-in-Ok-query_prepared-clause-mode : goal.returns-in-Ok-query_prepared-clause-mode
returns-in-Ok-query_prepared-clause-mode g c idle = subst (λ (h : Held g.row.S.Denot). h.in_transaction ≡ false) (given_back g c) (c.follows.ensures.mode (c.in-Ok-query_prepared.ensures.mode (c.prepare.ensures.mode idle)))

pub returns-in-Ok-query_prepared-clause-faults : goal.returns-in-Ok-query_prepared-clause-faults
returns-in-Ok-query_prepared-clause-faults g c = faults_read c.follows.result c.follows.ensures.faults

pub returns-in-Ok-query_prepared-clause-foreign : goal.returns-in-Ok-query_prepared-clause-foreign
returns-in-Ok-query_prepared-clause-foreign g c clean = faults_alone c.follows.result _ c.follows.ensures.faults

pub returns-in-Ok-query_prepared-clause-book : goal.returns-in-Ok-query_prepared-clause-book
returns-in-Ok-query_prepared-clause-book g c = c.follows.ensures.book

pub returns-in-Ok-query_prepared-clause-noted : goal.returns-in-Ok-query_prepared-clause-noted
returns-in-Ok-query_prepared-clause-noted g c = c.follows.ensures.noted

pub returns-clause-mode : goal.returns-clause-mode
returns-clause-mode g c idle = (rw c.in-Err-query_prepared.is at c.query_prepared.follows.holds-at-none).mode (c.prepare.ensures.mode idle)

pub returns-clause-faults : goal.returns-clause-faults
returns-clause-faults g c = inl c.stop_of.ensures.faults

pub returns-clause-foreign : goal.returns-clause-foreign
returns-clause-foreign g c clean = faults_alone {X = Bool} (Err c.stop_of.result) _ c.stop_of.ensures.faults

pub returns-clause-book : goal.returns-clause-book
returns-clause-book g c e = absurd (error_is_no_value e)

pub returns-clause-noted : goal.returns-clause-noted
returns-clause-noted g c e = absurd (error_is_no_value e)

pub returns-in-Err-clause-cause : goal.returns-in-Err-clause-cause
returns-in-Err-clause-cause g c clean v has = c.in-Err.ensures.cause clean (subst (λ t. IsAlwaysAnswered c.args.conn.now.schema t []) (sym c.select_of.ensures) (answered_over moved_listing (moved_is v) has))

pub returns-in-Ok-query_prepared-clause-cause : goal.returns-in-Ok-query_prepared-clause-cause
returns-in-Ok-query_prepared-clause-cause g c clean v has =
    let start = state g.S.Store c.in-Ok-query_prepared.rows.conn.now in
    let late : HasCleanDisk (state g.S.Store c.follows.new.rows.conn.now) = subst (λ x. HasCleanDisk (state g.S.Store x)) (sym (given_back g c)) clean in
    cause_read (read_all g c) moved_is c.follows.result clean v has
    (λ live there given. subst (λ x. HasFaultCause start (state g.S.Store x) c.follows.result) (given_back g c) (c.follows.ensures.cause late live v there given))

pub returns-clause-cause : goal.returns-clause-cause
returns-clause-cause g c clean v has =
    let old = state g.S.Store c.args.conn.now in
    let mid = state g.S.Store c.prepare.new.conn in
    let end = state g.S.Store c.query_prepared.follows.lender-at-none in
    let refused = rw c.in-Err-query_prepared.is at c.query_prepared.follows.holds-at-none in
    let early : HasCleanDisk mid = omega (arith, refused.survives.clean, clean) in
    let ready = c.in-Ok.ensures.prepared early in
    asked_cause old mid end _ moved_listing.text c.in-Ok.statement.text c.in-Err-query_prepared.error c.stop_of.result c.stop_of.ensures.memory (answered_over moved_listing (moved_is v) has) (ready.0 ∙ c.select_of.ensures, ready.1)
    c.prepare.ensures.survives early refused.survives (refused.err clean)

pub returns-in-Err-clause-searches : goal.returns-in-Err-clause-searches
returns-in-Err-clause-searches g c = omega arith

pub returns-in-Ok-query_prepared-clause-searches : goal.returns-in-Ok-query_prepared-clause-searches
returns-in-Ok-query_prepared-clause-searches g c = c.follows.ensures.searches

pub returns-clause-searches : goal.returns-clause-searches
returns-clause-searches g c = omega arith

use Rattle.std.proofs.Common.{◌≡◌, [], inl, sym, ap, subst, ◌∙◌, arith, rules, Bool, false, Err, IsTrue, OnOk}
use Rattle.sqlite.specs.Effect.{Database}
use Rattle.sqlite.specs.State.{HasCleanDisk, IsUnchanged}
use Rattle.sqlite.specs.Held.{Held, state}
use Rattle.ob_sql_rows.specs.declared.table.Table.TheVariants.{Command}
use Rattle.ob_record.specs.Tables.{Shows}
use Rattle.ob_sql_write.specs.Keeps.{KeepsIn}
use Rattle.ob_sql_read.specs.Faults.{HasNoMeaning}
use Rattle.ob_sql_read.specs.Reading.{command_listing}
use Rattle.ob_sql_rows.specs.declared.version.Version.TheVariants.{Two}
use Rattle.ob_sql_read.proofs.Asked.{IsRead, begun_read, cause_read, clean_read, kept_read, missed_read, same_read, survives_read}
use Rattle.ob_sql_read.proofs.Asking.{faults_alone, faults_read, foreign_tables, listing_quiet, never_clean}
use Rattle.ob_sql_read.proofs.Passing.{clean_before}
use Rattle.ob_sql_read.proofs.Kept.{kept_asked, unread}
use Rattle.ob_sql_read.proofs.Rowing.{if_ok}
use Rattle.ob_sql_read.proofs.Selects.{lists_commands}
use Rattle.ob_sql_read.proofs.commands.read_commands.Given.{Over}
use Rattle.ob_sql_rows.specs.Queries.{IsAlwaysAnswered}
use Rattle.ob_sql_rows.specs.Steps.{HasFaultCause}
use Rattle.ob_sql_read.proofs.Failing.{answered_over, asked_cause}
use Rattle.ob_sql_read.proofs.commands.read_commands.Goals as goal

-- the connection is given back as the rows left it
given_back : (g : Over) (c : goal.After-drop-statement-inside-in-Ok-query_prepared-2 g) → c.filed_rows.new.rows.conn.now ≡ c.conn-1.given.0
given_back g c = search rules

-- the table's rows were asked for, and read to the end
read_all : (g : Over) (c : goal.After-drop-statement-inside-in-Ok-query_prepared-2 g) → IsRead g.S.Store command_listing c.args.conn.now c.prepare.new.conn c.in-Ok-query_prepared.rows.conn.now c.conn-1.given.0 c.in-Ok.statement.text
read_all g c =
    subst (λ x. IsRead g.S.Store command_listing c.args.conn.now c.prepare.new.conn c.in-Ok-query_prepared.rows.conn.now x c.in-Ok.statement.text) (given_back g c) (record {
      prepared = λ clean. let it = c.in-Ok.ensures.prepared clean in (it.0 ∙ c.select_of.ensures, it.1);
      first = c.prepare.ensures.survives;
      asked = c.in-Ok-query_prepared.ensures.survives;
      begun = c.in-Ok-query_prepared.ensures.begun;
      rest = c.filed_rows.ensures.survives;
    })

pub returns-in-Err-clause-foreign : goal.returns-in-Err-clause-foreign
returns-in-Err-clause-foreign g c clean bad v = foreign_tables command_listing (lists_commands v) (state g.S.Store c.args.conn.now) _ (sym c.select_of.ensures) (c.in-Err.ensures.foreign clean bad).0

pub returns-in-Ok-query_prepared-clause-survives : goal.returns-in-Ok-query_prepared-clause-survives
returns-in-Ok-query_prepared-clause-survives g c = survives_read (read_all g c) lists_commands

pub returns-in-Ok-query_prepared-clause-same : goal.returns-in-Ok-query_prepared-clause-same
returns-in-Ok-query_prepared-clause-same g c clean =
    let start = state g.S.Store c.in-Ok-query_prepared.rows.conn.now in
    same_read (read_all g c) lists_commands c.filed_rows.result clean
    (subst (λ x. HasCleanDisk (state g.S.Store x) → OnOk c.filed_rows.result (IsTrue start.is_open → IsUnchanged start (state g.S.Store x))) (given_back g c) c.filed_rows.ensures.same clean)

pub returns-in-Ok-query_prepared-clause-read : goal.returns-in-Ok-query_prepared-clause-read
returns-in-Ok-query_prepared-clause-read g c clean =
    let late : HasCleanDisk (state g.S.Store c.filed_rows.new.rows.conn.now) = subst (λ x. HasCleanDisk (state g.S.Store x)) (sym (given_back g c)) clean in
    if_ok c.filed_rows.result (c.filed_rows.ensures.read late) (λ found tells v has rows there.
    let b = begun_read (read_all g c) lists_commands clean v has in
    tells b.1.0.is_open v (ap (λ (d : Database). d.schema) b.1.0.now_is ∙ has) b.0 rows (subst (λ (d : Database). Shows d.trees Command rows) (sym b.1.0.now_is) there))

pub returns-clause-survives : goal.returns-clause-survives
returns-clause-survives g c =
    let old = state g.S.Store c.args.conn.now in
    let mid = state g.S.Store c.prepare.new.conn in
    let end = state g.S.Store c.query_prepared.follows.lender-at-none in
    listing_quiet command_listing (lists_commands Two) old mid end c.in-Ok.statement.text (λ ready. let it = c.in-Ok.ensures.prepared ready in (it.0 ∙ c.select_of.ensures, it.1)) c.prepare.ensures.survives (rw c.in-Err-query_prepared.is at c.query_prepared.follows.holds-at-none).survives

pub returns-in-Ok-query_prepared-clause-clean : goal.returns-in-Ok-query_prepared-clause-clean
returns-in-Ok-query_prepared-clause-clean g c = clean_read (read_all g c) lists_commands

pub returns-clause-clean : goal.returns-clause-clean
returns-clause-clean g c clean = omega (arith, c.prepare.ensures.survives.clean, (rw c.in-Err-query_prepared.is at c.query_prepared.follows.holds-at-none).survives.clean, clean)

pub returns-in-Ok-query_prepared-clause-kept : goal.returns-in-Ok-query_prepared-clause-kept
returns-in-Ok-query_prepared-clause-kept g c v t =
    let start = state g.S.Store c.in-Ok-query_prepared.rows.conn.now in
    kept_read (read_all g c) lists_commands v t (subst (λ x. KeepsIn v start t → KeepsIn v (state g.S.Store x) t) (given_back g c) (c.filed_rows.ensures.kept v t))

pub returns-clause-kept : goal.returns-clause-kept
returns-clause-kept g c v t keeps =
    let old = state g.S.Store c.args.conn.now in
    let mid = state g.S.Store c.prepare.new.conn in
    let end = state g.S.Store c.query_prepared.follows.lender-at-none in
    let text = c.in-Ok.statement.text in
    let refused = rw c.in-Err-query_prepared.is at c.query_prepared.follows.holds-at-none in
    kept_asked v command_listing (lists_commands v) old mid end text (λ clean. let it = c.in-Ok.ensures.prepared clean in (it.0 ∙ c.select_of.ensures, it.1)) t keeps c.prepare.ensures.survives refused.survives
    (λ late plain. unread mid end text [] c.in-Err-query_prepared.error (refused.err late))

pub returns-in-Ok-query_prepared-clause-missed : goal.returns-in-Ok-query_prepared-clause-missed
returns-in-Ok-query_prepared-clause-missed g c none =
    missed_read (read_all g c) lists_commands c.filed_rows.result (λ clean. c.in-Ok.ensures.missed clean (subst (HasNoMeaning c.args.conn.now.schema) (sym c.select_of.ensures) none))

pub returns-clause-missed : goal.returns-clause-missed
returns-clause-missed g c none =
    let old = state g.S.Store c.args.conn.now in
    let mid = state g.S.Store c.prepare.new.conn in
    let end = state g.S.Store c.query_prepared.follows.lender-at-none in
    let refused = rw c.in-Err-query_prepared.is at c.query_prepared.follows.holds-at-none in
    let never : HasCleanDisk end → ⊥ = λ clean. c.in-Ok.ensures.missed (omega (arith, refused.survives.clean, clean)) (subst (HasNoMeaning old.now.schema) (sym c.select_of.ensures) none) in
    (never_clean old mid end _ c.prepare.ensures.survives refused.survives never, λ clean. absurd (never clean))

pub returns-in-Err-clause-missed : goal.returns-in-Err-clause-missed
returns-in-Err-clause-missed g c none =
    (c.prepare.ensures.survives, λ clean. c.in-Err.ensures.missed clean (subst (HasNoMeaning c.args.conn.now.schema) (sym c.select_of.ensures) none))

pub returns-in-Err-clause-mode : goal.returns-in-Err-clause-mode
returns-in-Err-clause-mode g c = c.prepare.ensures.mode

pub returns-in-Err-clause-survives : goal.returns-in-Err-clause-survives
returns-in-Err-clause-survives g c = c.prepare.ensures.survives

pub returns-in-Err-clause-kept : goal.returns-in-Err-clause-kept
returns-in-Err-clause-kept g c = c.prepare.ensures.kept

pub returns-in-Err-clause-clean : goal.returns-in-Err-clause-clean
returns-in-Err-clause-clean g c = clean_before (state g.S.Store c.args.conn.now) (state g.S.Store c.prepare.new.conn) c.prepare.ensures.survives

pub returns-in-Err-clause-faults : goal.returns-in-Err-clause-faults
returns-in-Err-clause-faults g c = c.in-Err.ensures.faults

pub returns-in-Ok-query_prepared-clause-mode : goal.returns-in-Ok-query_prepared-clause-mode
returns-in-Ok-query_prepared-clause-mode g c idle = subst (λ (h : Held g.row.S.Denot). h.in_transaction ≡ false) (given_back g c) (c.filed_rows.ensures.mode (c.in-Ok-query_prepared.ensures.mode (c.prepare.ensures.mode idle)))

pub returns-in-Ok-query_prepared-clause-faults : goal.returns-in-Ok-query_prepared-clause-faults
returns-in-Ok-query_prepared-clause-faults g c = faults_read c.filed_rows.result c.filed_rows.ensures.faults

pub returns-in-Ok-query_prepared-clause-foreign : goal.returns-in-Ok-query_prepared-clause-foreign
returns-in-Ok-query_prepared-clause-foreign g c clean = faults_alone c.filed_rows.result _ c.filed_rows.ensures.faults

pub returns-in-Ok-query_prepared-clause-valid : goal.returns-in-Ok-query_prepared-clause-valid
returns-in-Ok-query_prepared-clause-valid g c = c.filed_rows.ensures.valid

pub returns-clause-mode : goal.returns-clause-mode
returns-clause-mode g c idle = (rw c.in-Err-query_prepared.is at c.query_prepared.follows.holds-at-none).mode (c.prepare.ensures.mode idle)

pub returns-clause-faults : goal.returns-clause-faults
returns-clause-faults g c = inl c.stop_of.ensures.faults

pub returns-clause-foreign : goal.returns-clause-foreign
returns-clause-foreign g c clean = faults_alone {X = Bool} (Err c.stop_of.result) _ c.stop_of.ensures.faults

pub returns-in-Err-clause-cause : goal.returns-in-Err-clause-cause
returns-in-Err-clause-cause g c clean v has = c.in-Err.ensures.cause clean (subst (λ t. IsAlwaysAnswered c.args.conn.now.schema t []) (sym c.select_of.ensures) (answered_over command_listing (lists_commands v) has))

pub returns-in-Ok-query_prepared-clause-cause : goal.returns-in-Ok-query_prepared-clause-cause
returns-in-Ok-query_prepared-clause-cause g c clean v has =
    let start = state g.S.Store c.in-Ok-query_prepared.rows.conn.now in
    let late : HasCleanDisk (state g.S.Store c.filed_rows.new.rows.conn.now) = subst (λ x. HasCleanDisk (state g.S.Store x)) (sym (given_back g c)) clean in
    cause_read (read_all g c) lists_commands c.filed_rows.result clean v has
    (λ live there given. subst (λ x. HasFaultCause start (state g.S.Store x) c.filed_rows.result) (given_back g c) (c.filed_rows.ensures.cause late live v there given))

pub returns-clause-cause : goal.returns-clause-cause
returns-clause-cause g c clean v has =
    let old = state g.S.Store c.args.conn.now in
    let mid = state g.S.Store c.prepare.new.conn in
    let end = state g.S.Store c.query_prepared.follows.lender-at-none in
    let refused = rw c.in-Err-query_prepared.is at c.query_prepared.follows.holds-at-none in
    let early : HasCleanDisk mid = omega (arith, refused.survives.clean, clean) in
    let ready = c.in-Ok.ensures.prepared early in
    asked_cause old mid end _ command_listing.text c.in-Ok.statement.text c.in-Err-query_prepared.error c.stop_of.result c.stop_of.ensures.memory (answered_over command_listing (lists_commands v) has) (ready.0 ∙ c.select_of.ensures, ready.1)
    c.prepare.ensures.survives early refused.survives (refused.err clean)

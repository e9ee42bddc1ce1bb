use Rattle.std.proofs.Common.{◌≡◌, ◌≤◌, ◌∙◌, sym, ap, refl, false, cond, arith, Ok, Err}
use Rattle.ob_base.specs.declared.stop.Stop.TheVariants.{Fault}
use Rattle.ob_store.proofs.Faults.{tells_nothing}
use Rattle.ob_csv.specs.Header.{is_header}
use Rattle.ob_csv.specs.RowReading.{rows_left}
use Rattle.ob_import.proofs.Importing.{ended_tells, found_some, other_fault, runs_after, runs_fault_by, runs_full, runs_headless, runs_none, runs_nothing_by, runs_refused_by, runs_unread_by, so_far_more, so_far_none, some_row, then_tells}
use Rattle.ob_import.proofs.rows.import_rows.Goals.{then-not-found-via-then-not-found, then-not-found-via-else-not-found+then-not-is_header}
use Rattle.ob_import.proofs.rows.import_rows.Goals as goal

pub returns-in-Err : goal.returns-in-Err
returns-in-Err g c =
    let left = rows_left g.R.Read.remaining in
    record {
      runs = runs_nothing_by c.args.keeper.now (left c.args.rows.now) c.args.whole c.in-Err.fault c.fault_after.result c.requires c.in-Err.ensures.fault c.in-Err.ensures.store c.in-Err.ensures.all
          c.fault_after.ensures.fault;
      some = λ cut. tt;
      tells = tells_nothing c.args.keeper.now c.args.keeper.now _ refl (other_fault c.in-Err.fault c.fault_after.result (ap (λ e. e.fault) c.fault_after.ensures.fault) c.in-Err.ensures.store);
    }

pub returns-then-not-found : goal.returns-then-not-found
returns-then-not-found g c =
    let left = rows_left g.R.Read.remaining in
    let none : cond c.in-Ok.found (is_header c.take_row.new.row) false ≡ false = elim c.then-not-found.branch [
      | then-not-found-via-then-not-found w ↦ rw w.if-not-found.true refl
      | then-not-found-via-else-not-found+then-not-is_header w ↦ rw w.if-not-found.false (sym w.is_header.ensures ∙ w.if-not-is_header.true)
    ] in
    let told = c.report.ensures in
    record {
      runs = runs_headless c.args.keeper.now (left c.args.rows.now) (left c.take_row.new.rows) c.in-Ok.found c.args.whole c.take_row.new.row c.report.result c.requires c.in-Ok.ensures.takes none
          told.added told.again told.stopped;
      some = λ cut. found_some (left c.args.rows.now) (left c.take_row.new.rows) c.in-Ok.found c.args.whole c.take_row.new.row c.in-Ok.ensures.takes (λ is. c.in-Ok.ensures.ended (ap Ok is)) cut;
      tells = tells_nothing c.args.keeper.now c.args.keeper.now _ refl (λ e. e);
    }

pub loop-number-init : goal.loop-number-init
loop-number-init g c = so_far_none c.args.keeper.now (rows_left g.R.Read.remaining c.take_row.new.rows) c.requires

pub loop-number-preserved : goal.loop-number-preserved
loop-number-preserved g c =
    let left = rows_left g.R.Read.remaining in
    let takes = rw c.in-Ok-true.field-0-test at c.in-Ok-true.ensures.takes in
    let within : c.loop-number.number ≤ 1_000_000 = omega arith in
    so_far_more c.args.keeper.now c.loop-number.keeper (left c.take_row.new.rows) (left c.loop-number.rows) c.loop-number.tally.added c.loop-number.tally.again c.loop-number.number c.loop-number.invariant
    c.act_row.new.keeper (left c.take_row-in-loop-number.new.rows) c.take_row-in-loop-number.new.row takes within c.act_row.ensures.clean
    c.in-Ok-act_row.is_new c.count.new.self.added c.count.new.self.again c.in-Ok-act_row.ensures.dropped c.in-Ok-act_row.ensures.tells c.in-Ok-act_row.ensures.acted c.count.ensures.added c.count.ensures.again

pub returns-in-Ok-false : goal.returns-in-Ok-false
returns-in-Ok-false g c =
    let left = rows_left g.R.Read.remaining in
    let first = rw c.if-not-found.false at c.in-Ok.ensures.takes in
    let header = sym c.is_header.ensures ∙ c.if-not-is_header.false in
    let takes = rw c.in-Ok-false.field-0-test at c.in-Ok-false.ensures.takes in
    let told = c.report-in-Ok-false.ensures in
    record {
      runs = runs_after c.args.keeper.now c.loop-number.keeper (left c.args.rows.now) (left c.take_row.new.rows) c.args.whole c.take_row.new.row (Ok c.report-in-Ok-false.result) first header
          (runs_none c.args.keeper.now c.loop-number.keeper (left c.take_row.new.rows) (left c.loop-number.rows) c.loop-number.tally.added c.loop-number.tally.again c.loop-number.number c.loop-number.invariant
          (left c.take_row-in-loop-number.new.rows) c.take_row-in-loop-number.new.row c.args.whole c.report-in-Ok-false.result takes (c.in-Ok-false.ensures.ended (ap Ok c.in-Ok-false.field-0-test)) told.added told.again told.stopped);
      some = λ cut. some_row (left c.args.rows.now) (left c.take_row.new.rows) c.take_row.new.row (Ok c.report-in-Ok-false.result) first;
      tells = ended_tells c.args.keeper.now c.loop-number.keeper (left c.take_row.new.rows) (left c.loop-number.rows) c.loop-number.tally.added c.loop-number.tally.again c.loop-number.number c.loop-number.invariant _ (λ e. e);
    }

pub returns-in-Err-take_row : goal.returns-in-Err-take_row
returns-in-Err-take_row g c =
    let left = rows_left g.R.Read.remaining in
    let first = rw c.if-not-found.false at c.in-Ok.ensures.takes in
    let header = sym c.is_header.ensures ∙ c.if-not-is_header.false in
    record {
      runs = runs_after c.args.keeper.now c.loop-number.keeper (left c.args.rows.now) (left c.take_row.new.rows) c.args.whole c.take_row.new.row (Err c.fault_after-in-Err-take_row.result) first header
          (runs_unread_by c.args.keeper.now c.loop-number.keeper (left c.take_row.new.rows) (left c.loop-number.rows) c.loop-number.tally.added c.loop-number.tally.again c.loop-number.number c.loop-number.invariant
          c.in-Err-take_row.fault c.args.whole c.fault_after-in-Err-take_row.result c.in-Err-take_row.ensures.fault c.in-Err-take_row.ensures.store c.in-Err-take_row.ensures.all c.fault_after-in-Err-take_row.ensures.fault);
      some = λ cut. some_row (left c.args.rows.now) (left c.take_row.new.rows) c.take_row.new.row (Err c.fault_after-in-Err-take_row.result) first;
      tells = ended_tells c.args.keeper.now c.loop-number.keeper (left c.take_row.new.rows) (left c.loop-number.rows) c.loop-number.tally.added c.loop-number.tally.again c.loop-number.number c.loop-number.invariant _
          (other_fault c.in-Err-take_row.fault c.fault_after-in-Err-take_row.result (ap (λ e. e.fault) c.fault_after-in-Err-take_row.ensures.fault) c.in-Err-take_row.ensures.store);
    }

pub returns-in-Err-Refused : goal.returns-in-Err-Refused
returns-in-Err-Refused g c =
    let left = rows_left g.R.Read.remaining in
    let first = rw c.if-not-found.false at c.in-Ok.ensures.takes in
    let header = sym c.is_header.ensures ∙ c.if-not-is_header.false in
    let takes = rw c.in-Ok-true.field-0-test at c.in-Ok-true.ensures.takes in
    let within : c.loop-number.number ≤ 1_000_000 = omega arith in
    let told = c.report-in-Err-Refused.ensures in
    record {
      runs = runs_after c.args.keeper.now c.act_row.new.keeper (left c.args.rows.now) (left c.take_row.new.rows) c.args.whole c.take_row.new.row (Ok c.report-in-Err-Refused.result) first header
          (runs_refused_by c.args.keeper.now c.loop-number.keeper (left c.take_row.new.rows) (left c.loop-number.rows) c.loop-number.tally.added c.loop-number.tally.again c.loop-number.number c.loop-number.invariant
          c.act_row.new.keeper (left c.take_row-in-loop-number.new.rows) c.take_row-in-loop-number.new.row takes within c.act_row.ensures.clean c.in-Err-Refused.field-0 c.in-Err-Refused.ensures.dropped
          c.in-Err-Refused.ensures.acted c.in-Err-Refused.refusal c.args.whole c.report-in-Err-Refused.result c.in-Err-Refused.field-0-is told.added told.again told.stopped);
      some = λ cut. some_row (left c.args.rows.now) (left c.take_row.new.rows) c.take_row.new.row (Ok c.report-in-Err-Refused.result) first;
      tells = then_tells c.args.keeper.now c.loop-number.keeper (left c.take_row.new.rows) (left c.loop-number.rows) c.loop-number.tally.added c.loop-number.tally.again c.loop-number.number c.loop-number.invariant
          c.act_row.new.keeper _ _ (λ e. absurd e) c.in-Err-Refused.ensures.tells;
    }

pub returns-in-Err-Fault : goal.returns-in-Err-Fault
returns-in-Err-Fault g c =
    let left = rows_left g.R.Read.remaining in
    let first = rw c.if-not-found.false at c.in-Ok.ensures.takes in
    let header = sym c.is_header.ensures ∙ c.if-not-is_header.false in
    let takes = rw c.in-Ok-true.field-0-test at c.in-Ok-true.ensures.takes in
    let within : c.loop-number.number ≤ 1_000_000 = omega arith in
    record {
      runs = runs_after c.args.keeper.now c.act_row.new.keeper (left c.args.rows.now) (left c.take_row.new.rows) c.args.whole c.take_row.new.row (Err c.fault_after-in-Err-Fault.result) first header
          (runs_fault_by c.args.keeper.now c.loop-number.keeper (left c.take_row.new.rows) (left c.loop-number.rows) c.loop-number.tally.added c.loop-number.tally.again c.loop-number.number c.loop-number.invariant
          c.act_row.new.keeper (left c.take_row-in-loop-number.new.rows) c.take_row-in-loop-number.new.row takes within c.act_row.ensures.clean c.in-Err-Fault.field-0 c.in-Err-Fault.ensures.dropped
          c.in-Err-Fault.ensures.acted c.in-Err-Fault.fault c.args.whole c.fault_after-in-Err-Fault.result c.in-Err-Fault.field-0-is c.in-Err-Fault.ensures.faults c.fault_after-in-Err-Fault.ensures.fault);
      some = λ cut. some_row (left c.args.rows.now) (left c.take_row.new.rows) c.take_row.new.row (Err c.fault_after-in-Err-Fault.result) first;
      tells = then_tells c.args.keeper.now c.loop-number.keeper (left c.take_row.new.rows) (left c.loop-number.rows) c.loop-number.tally.added c.loop-number.tally.again c.loop-number.number c.loop-number.invariant
          c.act_row.new.keeper _ _ (λ e. ap Err (c.in-Err-Fault.field-0-is ∙ ap Fault (sym (ap (λ x. x.fault) c.fault_after-in-Err-Fault.ensures.fault) ∙ e))) c.in-Err-Fault.ensures.tells;
    }

pub returns-in-Ok-true-take_row : goal.returns-in-Ok-true-take_row
returns-in-Ok-true-take_row g c =
    let left = rows_left g.R.Read.remaining in
    let first = rw c.if-not-found.false at c.in-Ok.ensures.takes in
    let header = sym c.is_header.ensures ∙ c.if-not-is_header.false in
    let takes = rw c.in-Ok-true-take_row.field-0-test at c.in-Ok-true-take_row.ensures.takes in
    let last : c.loop-number.number ≡ 1_000_001 = omega arith in
    let told = c.report-in-Ok-true-take_row.ensures in
    record {
      runs = runs_after c.args.keeper.now c.loop-number.keeper (left c.args.rows.now) (left c.take_row.new.rows) c.args.whole c.take_row.new.row (Ok c.report-in-Ok-true-take_row.result) first header
          (runs_full c.args.keeper.now c.loop-number.keeper (left c.take_row.new.rows) (left c.loop-number.rows) c.loop-number.tally.added c.loop-number.tally.again c.loop-number.number c.loop-number.invariant
          (left c.take_row-2.new.rows) c.take_row-2.new.row c.args.whole c.report-in-Ok-true-take_row.result takes last told.added told.again told.stopped);
      some = λ cut. some_row (left c.args.rows.now) (left c.take_row.new.rows) c.take_row.new.row (Ok c.report-in-Ok-true-take_row.result) first;
      tells = ended_tells c.args.keeper.now c.loop-number.keeper (left c.take_row.new.rows) (left c.loop-number.rows) c.loop-number.tally.added c.loop-number.tally.again c.loop-number.number c.loop-number.invariant _ (λ e. e);
    }

pub returns-in-Ok-false-take_row : goal.returns-in-Ok-false-take_row
returns-in-Ok-false-take_row g c =
    let left = rows_left g.R.Read.remaining in
    let first = rw c.if-not-found.false at c.in-Ok.ensures.takes in
    let header = sym c.is_header.ensures ∙ c.if-not-is_header.false in
    let takes = rw c.in-Ok-false-take_row.field-0-test at c.in-Ok-false-take_row.ensures.takes in
    let told = c.report-in-Ok-false-take_row.ensures in
    record {
      runs = runs_after c.args.keeper.now c.loop-number.keeper (left c.args.rows.now) (left c.take_row.new.rows) c.args.whole c.take_row.new.row (Ok c.report-in-Ok-false-take_row.result) first header
          (runs_none c.args.keeper.now c.loop-number.keeper (left c.take_row.new.rows) (left c.loop-number.rows) c.loop-number.tally.added c.loop-number.tally.again c.loop-number.number c.loop-number.invariant
          (left c.take_row-2.new.rows) c.take_row-2.new.row c.args.whole c.report-in-Ok-false-take_row.result takes (c.in-Ok-false-take_row.ensures.ended (ap Ok c.in-Ok-false-take_row.field-0-test)) told.added told.again told.stopped);
      some = λ cut. some_row (left c.args.rows.now) (left c.take_row.new.rows) c.take_row.new.row (Ok c.report-in-Ok-false-take_row.result) first;
      tells = ended_tells c.args.keeper.now c.loop-number.keeper (left c.take_row.new.rows) (left c.loop-number.rows) c.loop-number.tally.added c.loop-number.tally.again c.loop-number.number c.loop-number.invariant _ (λ e. e);
    }

pub returns : goal.returns
returns g c =
    let left = rows_left g.R.Read.remaining in
    let first = rw c.if-not-found.false at c.in-Ok.ensures.takes in
    let header = sym c.is_header.ensures ∙ c.if-not-is_header.false in
    record {
      runs = runs_after c.args.keeper.now c.loop-number.keeper (left c.args.rows.now) (left c.take_row.new.rows) c.args.whole c.take_row.new.row (Err c.fault_after-in-Err-take_row-2.result) first header
          (runs_unread_by c.args.keeper.now c.loop-number.keeper (left c.take_row.new.rows) (left c.loop-number.rows) c.loop-number.tally.added c.loop-number.tally.again c.loop-number.number c.loop-number.invariant
          c.in-Err-take_row-2.fault c.args.whole c.fault_after-in-Err-take_row-2.result c.in-Err-take_row-2.ensures.fault c.in-Err-take_row-2.ensures.store c.in-Err-take_row-2.ensures.all c.fault_after-in-Err-take_row-2.ensures.fault);
      some = λ cut. some_row (left c.args.rows.now) (left c.take_row.new.rows) c.take_row.new.row (Err c.fault_after-in-Err-take_row-2.result) first;
      tells = ended_tells c.args.keeper.now c.loop-number.keeper (left c.take_row.new.rows) (left c.loop-number.rows) c.loop-number.tally.added c.loop-number.tally.again c.loop-number.number c.loop-number.invariant _
          (other_fault c.in-Err-take_row-2.fault c.fault_after-in-Err-take_row-2.result (ap (λ e. e.fault) c.fault_after-in-Err-take_row-2.ensures.fault) c.in-Err-take_row-2.ensures.store);
    }

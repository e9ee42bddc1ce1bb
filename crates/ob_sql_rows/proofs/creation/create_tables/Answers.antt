use Rattle.std.proofs.Common.{◌≡◌, subst, sym, ◌∙◌, refl, arith}
use Rattle.sqlite.specs.State.{HasCleanDisk}
use Rattle.sqlite.specs.Held.{state}
use Rattle.ob_sql_rows.proofs.Silence.{silent_same, silent_then}
use Rattle.ob_sql_rows.proofs.Creating.{up_to_same, up_to_then, lets_first, lets_next, creates_none, makes_book}
use Rattle.ob_sql_rows.proofs.Failing.{failed_after}
use Rattle.ob_sql_rows.specs.Creation.{LetsTable, MakesUpTo}
use Rattle.ob_sql_rows.proofs.creation.create_tables.Goals as goal

pub tables-init : goal.tables-init
tables-init g c =
    let old = state g.S.Store c.args.tx.now.conn.now in
    (refl, silent_same old, λ clean inside. (up_to_same old inside, λ lets. lets_first old lets))

pub tables-preserved : goal.tables-preserved
tables-preserved g c =
    let old = state g.S.Store c.args.tx.now.conn.now in
    let mid = state g.S.Store c.tables.tx.conn.now in
    let new = state g.S.Store c.create_table.new.tx.conn.now in
    let step = c.create_table.ensures in (
      step.same_reference ∙ c.tables.invariant.0,
      silent_then old mid new c.tables.invariant.1 step.silent,
      λ late inside.
          let early : HasCleanDisk mid = omega (arith, step.silent.survives.clean, late) in
          let was = c.tables.invariant.2 early inside in
          let made = c.in_ok-create_table.ensures.creates late was.0.inside in
          (up_to_then old mid new c.tables.at _ c.table_after.ensures was.0 made, λ lets. lets_next mid new c.tables.at _ c.table_after.ensures made (was.1 lets)),
    )

pub returns-in_err-create_table : goal.returns-in_err-create_table
returns-in_err-create_table g c =
    let old = state g.S.Store c.args.tx.now.conn.now in
    let mid = state g.S.Store c.tables.tx.conn.now in
    let new = state g.S.Store c.create_table.new.tx.conn.now in
    let step = c.create_table.ensures in
    creates_none g.S.Store _ _ c.from_residual.result _ _ _ c.from_residual.ensures.1 (step.same_reference ∙ c.tables.invariant.0) (silent_then old mid new c.tables.invariant.1 step.silent)
    c.in_err-create_table.ensures.faults (λ late store inside lets.
    let early : HasCleanDisk mid = omega (arith, step.silent.survives.clean, late) in
    let was = c.tables.invariant.2 early inside in
    failed_after old mid new _ _ c.tables.invariant.1.survives early step.silent.survives
    (c.in_err-create_table.ensures.cause late store was.0.inside (subst (λ n. LetsTable n mid) (sym c.table_after.ensures) (was.1 lets))))

pub returns : goal.returns
returns g c =
    let old = state g.S.Store c.args.tx.now.conn.now in
    let now = state g.S.Store c.tables.tx.conn.now in
    let all : c.tables.at ≡ 11 = omega (arith, c.tables-test.false, c.tables.auto.at-end) in
    record {
      same_reference = c.tables.invariant.0;
      silent = c.tables.invariant.1;
      faults = tt;
      creates = λ clean inside. makes_book old now (subst (λ n. MakesUpTo 0 n old now) all (c.tables.invariant.2 clean inside).0);
      cause = λ clean. tt;
    }

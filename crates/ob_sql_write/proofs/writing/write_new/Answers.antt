use Rattle.std.proofs.Common.{◌≡◌, ◌<◌, ◌^◌, ◌∙◌, [], refl, arith, rules}
use Rattle.sqlite.specs.State.{HasCleanDisk}
use Rattle.sqlite.specs.Held.{state}
use Rattle.ob_sql_rows.proofs.Silence.{silent_then}
use Rattle.ob_sql_rows.specs.Rows.{Always}
use Rattle.ob_sql_rows.specs.declared.table.Table.TheVariants.{Posting}
use Rattle.ob_sql_write.specs.Amounts.{all_keys}
use Rattle.ob_sql_write.specs.NewBook.{LetsHeading, LetsNew, LetsZeros, with_heading}
use Rattle.ob_sql_write.proofs.Causes.{creation_stopped, last_cause, lets_then, of_change, of_creation, stopped_after, stopped_first}
use Rattle.ob_sql_write.proofs.Letting.{lets_amounts}
use Rattle.ob_sql_write.proofs.Steps.{on_ok}
use Rattle.ob_sql_write.proofs.NewBook.{lets_no_rows, makes_new}
use Rattle.ob_sql_write.proofs.writing.write_new.Goals as goal

pub returns : goal.returns
returns g c =
    let old = state g.S.Store c.args.tx.now.conn.now in
    let one = state g.S.Store c.create_tables.new.tx.conn.now in
    let two = state g.S.Store c.write_heading.new.tx.conn.now in
    let new = state g.S.Store c.write_amounts.new.tx.conn.now in
    let last = c.write_amounts.ensures in
    let quiet = silent_then one two new c.write_heading.ensures.silent last.silent in
    let small : c.args.days < 2 ^ 16 = search rules in
    record {
      same_reference = last.same_reference ∙ (c.write_heading.ensures.same_reference ∙ c.create_tables.ensures.same_reference);
      silent = silent_then old one new c.create_tables.ensures.silent quiet;
      faults = last.faults;
      creates = λ clean.
          let late : HasCleanDisk two = omega (arith, last.silent.survives.clean, clean) in
          let early : HasCleanDisk one = omega (arith, quiet.survives.clean, clean) in
          on_ok c.write_amounts.result (last.makes clean) (λ third inside.
          let first = c.in_ok-create_tables.ensures.creates early inside in
          let second = c.in_ok-write_heading.ensures.makes late first.inside in
          makes_new old one two new c.args.first_day.now c.args.days c.args.zone.now first second (third second.stays second.inside));
      cause = λ clean. last_cause old two new c.write_amounts.result (silent_then old one two c.create_tables.ensures.silent c.write_heading.ensures.silent) last.silent clean (last.cause clean)
          (λ late live inside allowed.
          let early : HasCleanDisk one = omega (arith, c.write_heading.ensures.silent.survives.clean, late) in
          let first = c.in_ok-create_tables.ensures.creates early inside in
          let second = c.in_ok-write_heading.ensures.makes late first.inside in (
            second.inside,
            lets_then one two Always Always (λ t. t Posting ≡ []) Always (LetsZeros (all_keys c.args.days)) (with_heading c.args.first_day.now c.args.days c.args.zone.now)
                (λ t any none. (tt, tt, lets_amounts c.args.days _ small none)) second (lets_no_rows old one (λ t. t Posting ≡ []) first allowed.book refl),
          ));
    }

pub returns-in_err-create_tables : goal.returns-in_err-create_tables
returns-in_err-create_tables g c =
    creation_stopped g.S.Store c.args.tx.now.conn c.create_tables.new.tx.conn c.from_residual.result _ c.from_residual.ensures.1
    (stopped_first g.S.Store _ _ _ (λ (it : LetsNew c.args.first_day.now c.args.zone.now (state g.S.Store c.args.tx.now.conn.now)). it.book) (of_creation g.S.Store _ _ _ c.in_err-create_tables.ensures))

pub returns-in_err-write_heading : goal.returns-in_err-write_heading
returns-in_err-write_heading g c =
    let old = state g.S.Store c.args.tx.now.conn.now in
    let one = state g.S.Store c.create_tables.new.tx.conn.now in
    creation_stopped g.S.Store c.args.tx.now.conn c.write_heading.new.tx.conn c.from_residual-in_err-write_heading.result _ c.from_residual-in_err-write_heading.ensures.1
    (stopped_after g.S.Store c.args.tx.now.conn c.create_tables.new.tx.conn c.write_heading.new.tx.conn _ c.create_tables.ensures.same_reference c.create_tables.ensures.silent (of_change g.S.Store _ _ _ c.in_err-write_heading.ensures)
    (λ early live inside allowed.
    let first = c.in_ok-create_tables.ensures.creates early inside in
    (first.inside, lets_no_rows old one (LetsHeading c.args.first_day.now c.args.zone.now) first allowed.book (record { meta = refl; causes = refl; nodes = refl; first_fits = allowed.first_fits; zone_fits = allowed.zone_fits }))))

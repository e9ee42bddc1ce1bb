use Rattle.std.proofs.Common.{◌≢◌, Ok, Err, inl, inr, sym, ◌∙◌}
use Rattle.ob_base.specs.declared.stop.Stop.{Stop}
use Rattle.ob_sql_rows.specs.Steps.{IsStoreFault}
use Rattle.ob_sql_rows.specs.declared.version.Version.TheVariants.{One}
use Rattle.ob_sql_read.specs.Reading.{bad_book}
use Rattle.ob_store.specs.Differing.{NoneSo}
use Rattle.ob_store.specs.Finding.{Finds}
use Rattle.ob_store.proofs.Found.{Apart}
use Rattle.ob_store.proofs.OldParts.{rows_apart, rows_broken, rows_failed, rows_off, rows_unread}
use Rattle.ob_store.proofs.Reading.{read_err, read_ok}
use Rattle.ob_store.proofs.migrating.check_old.Goals as goal

pub returns-in-Ok-false : goal.returns-in-Ok-false
returns-in-Ok-false g c =
    rows_off g.S.Store c.args.led.now.book.state c.args.conn.now c.has_old_rows.new.conn c.in-Ok-false.field-0 c.in-Ok-false.field-0-test c.in-Ok-false.ensures

pub returns-in-Err : goal.returns-in-Err
returns-in-Err g c = rows_failed g.S.Store c.args.led.now.book.state c.args.conn.now c.has_old_rows.new.conn c.in-Err.stop c.in-Err.ensures

pub returns-in-Ok-true-are_apart : goal.returns-in-Ok-true-are_apart
returns-in-Ok-true-are_apart g c =
    let it = c.in-Ok-true-are_apart in
    let e = it.ensures in
    let mid = c.has_old_rows.new.conn in
    let end = c.are_apart.new.conn in
    let third : Finds g.S.Store One Apart NoneSo mid end (Ok it.field-0) = read_ok g.S.Store One Apart NoneSo mid end it.field-0 e.mode e.survives e.clean (e.kept One) (λ clean. e.same clean One) (λ clean. e.apart clean One) in
    rows_apart g.S.Store c.args.led.now.book.state c.args.conn.now mid c.in-Ok-true.field-0 c.in-Ok-true.field-0-test c.in-Ok-true.ensures end it.field-0 it.field-0-test third

pub returns-in-Ok-false-are_apart : goal.returns-in-Ok-false-are_apart
returns-in-Ok-false-are_apart g c =
    let it = c.in-Ok-false-are_apart in
    let e = it.ensures in
    let mid = c.has_old_rows.new.conn in
    let end = c.are_apart.new.conn in
    let third : Finds g.S.Store One Apart NoneSo mid end (Ok it.field-0) = read_ok g.S.Store One Apart NoneSo mid end it.field-0 e.mode e.survives e.clean (e.kept One) (λ clean. e.same clean One) (λ clean. e.apart clean One) in
    rows_broken g.S.Store c.args.led.now.book.state c.args.conn.now mid c.in-Ok-true.field-0 c.in-Ok-true.field-0-test c.in-Ok-true.ensures end it.field-0 it.field-0-test third

no_other : (stop : Stop) → IsStoreFault stop → stop ≢ bad_book
no_other stop (inl memory) bad = absurd (let e = sym memory ∙ bad in cc)
no_other stop (inr store) bad = absurd (let e = sym store ∙ bad in cc)

pub returns-in-Err-are_apart : goal.returns-in-Err-are_apart
returns-in-Err-are_apart g c =
    let it = c.in-Err-are_apart in
    let e = it.ensures in
    let mid = c.has_old_rows.new.conn in
    let end = c.are_apart.new.conn in
    let third : Finds g.S.Store One Apart NoneSo mid end (Err it.stop) = read_err g.S.Store One Apart NoneSo mid end it.stop e.mode e.survives e.clean (e.kept One) (inl e.faults) (λ clean. e.cause clean One) (λ clean bad. absurd (no_other it.stop e.faults bad)) in
    rows_unread g.S.Store c.args.led.now.book.state c.args.conn.now mid c.in-Ok-true.field-0 c.in-Ok-true.field-0-test c.in-Ok-true.ensures end it.stop third

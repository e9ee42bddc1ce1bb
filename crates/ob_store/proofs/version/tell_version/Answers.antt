use Rattle.ob_sql_rows.specs.declared.version.Version.TheVariants.{Two}
use Rattle.ob_store.proofs.Telling.{current, lacks, outdated, unversioned}
use Rattle.ob_store.proofs.version.tell_version.Goals as goal

pub returns-in-Ok-true-clause-tells : goal.returns-in-Ok-true-clause-tells
returns-in-Ok-true-clause-tells g c =
    let it = c.in-Ok-true in
    let e = it.ensures in
    outdated g.S.Store c.args.conn.now c.has_version.new.conn e.mode e.survives e.clean (e.kept Two) e.same it.field-0 e.version it.field-0-test

pub returns-in-Err-clause-tells : goal.returns-in-Err-clause-tells
returns-in-Err-clause-tells g c =
    let e = c.in-Err.ensures in
    unversioned g.S.Store c.args.conn.now c.has_version.new.conn e.mode e.survives e.clean (e.kept Two) c.in-Err.stop e.faults e.cause e.foreign

pub returns-then-is_book-clause-tells : goal.returns-then-is_book-clause-tells
returns-then-is_book-clause-tells g c =
    let it = c.in-Ok-false in
    let e = it.ensures in
    current g.S.Store c.args.conn.now c.has_version.new.conn e.mode e.survives e.clean (e.kept Two) e.same it.field-0 e.version it.field-0-test c.args.is_book c.requires c.if-is_book.true

pub returns-else-is_book-clause-tells : goal.returns-else-is_book-clause-tells
returns-else-is_book-clause-tells g c =
    let it = c.in-Ok-false in
    let e = it.ensures in
    lacks g.S.Store c.args.conn.now c.has_version.new.conn e.mode e.survives e.clean (e.kept Two) e.same it.field-0 e.version it.field-0-test c.args.is_book c.requires c.if-is_book.false

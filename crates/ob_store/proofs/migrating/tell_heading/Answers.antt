use Rattle.sqlite.specs.Held.{state}
use Rattle.ob_store.proofs.OldTelling.{looked, shown_so, told_fault, told_lives, told_new, told_none, told_one, told_other, unread}
use Rattle.ob_store.proofs.migrating.tell_heading.Goals as goal

pub returns-in-Ok-true-clause-told : goal.returns-in-Ok-true-clause-told
returns-in-Ok-true-clause-told g c clean so =
    let it = c.in-Ok-true in
    shown_so 2 (state g.S.Store c.args.conn.now) (state g.S.Store c.has_version.new.conn) it.field-0 it.field-0-test (it.ensures.shown clean)

pub returns-in-Ok-true-clause-finds : goal.returns-in-Ok-true-clause-finds
returns-in-Ok-true-clause-finds g c v =
    let it = c.in-Ok-true in
    let e = it.ensures in
    told_new g.S.Store v c.args.conn.now c.has_version.new.conn it.field-0 it.field-0-test (looked g.S.Store 2 v c.args.conn.now c.has_version.new.conn e.mode e.survives e.clean e.kept it.field-0 e.same e.version)

pub returns-in-Err-clause-finds : goal.returns-in-Err-clause-finds
returns-in-Err-clause-finds g c v =
    let e = c.in-Err.ensures in
    told_none g.S.Store v c.args.conn.now c.has_version.new.conn c.in-Err.stop (unread g.S.Store 2 v c.args.conn.now c.has_version.new.conn e.mode e.survives e.clean e.kept c.in-Err.stop e.faults e.cause e.foreign)

pub returns-in-Ok-false-has_version-clause-finds : goal.returns-in-Ok-false-has_version-clause-finds
returns-in-Ok-false-has_version-clause-finds g c v =
    let it = c.in-Ok-false in
    let e = it.ensures in
    let two = c.in-Ok-false-has_version in
    let f = two.ensures in
    told_other g.S.Store v c.args.conn.now c.has_version.new.conn it.field-0 it.field-0-test (looked g.S.Store 2 v c.args.conn.now c.has_version.new.conn e.mode e.survives e.clean e.kept it.field-0 e.same e.version)
    c.has_version-2.new.conn two.field-0 two.field-0-test (looked g.S.Store 1 v c.has_version.new.conn c.has_version-2.new.conn f.mode f.survives f.clean f.kept two.field-0 f.same f.version)

pub returns-in-Err-has_version-clause-finds : goal.returns-in-Err-has_version-clause-finds
returns-in-Err-has_version-clause-finds g c v =
    let it = c.in-Ok-false in
    let e = it.ensures in
    let two = c.in-Err-has_version in
    let f = two.ensures in
    told_fault g.S.Store v c.args.conn.now c.has_version.new.conn it.field-0 it.field-0-test (looked g.S.Store 2 v c.args.conn.now c.has_version.new.conn e.mode e.survives e.clean e.kept it.field-0 e.same e.version)
    c.has_version-2.new.conn two.stop (unread g.S.Store 1 v c.has_version.new.conn c.has_version-2.new.conn f.mode f.survives f.clean f.kept two.stop f.faults f.cause f.foreign)

pub returns-then-is_old-clause-finds : goal.returns-then-is_old-clause-finds
returns-then-is_old-clause-finds g c v =
    let it = c.in-Ok-false in
    let e = it.ensures in
    let two = c.in-Ok-true-has_version in
    let f = two.ensures in
    told_one g.S.Store v c.args.conn.now c.has_version.new.conn it.field-0 it.field-0-test (looked g.S.Store 2 v c.args.conn.now c.has_version.new.conn e.mode e.survives e.clean e.kept it.field-0 e.same e.version)
    c.has_version-2.new.conn two.field-0 (looked g.S.Store 1 v c.has_version.new.conn c.has_version-2.new.conn f.mode f.survives f.clean f.kept two.field-0 f.same f.version)
    c.args.is_old c.requires c.if-is_old.true

pub returns-else-is_old-clause-finds : goal.returns-else-is_old-clause-finds
returns-else-is_old-clause-finds g c v =
    let it = c.in-Ok-false in
    let e = it.ensures in
    let two = c.in-Ok-true-has_version in
    let f = two.ensures in
    told_lives g.S.Store v c.args.conn.now c.has_version.new.conn it.field-0 it.field-0-test (looked g.S.Store 2 v c.args.conn.now c.has_version.new.conn e.mode e.survives e.clean e.kept it.field-0 e.same e.version)
    c.has_version-2.new.conn two.field-0 (looked g.S.Store 1 v c.has_version.new.conn c.has_version-2.new.conn f.mode f.survives f.clean f.kept two.field-0 f.same f.version)
    c.args.is_old c.requires c.if-is_old.false

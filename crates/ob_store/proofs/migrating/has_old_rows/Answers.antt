use Rattle.std.proofs.Common.{◌≡◌, arith}
use Rattle.ob_store.proofs.OldParts.{is_had, is_part, part_failed, part_right, part_wrong, parts_right}
use Rattle.ob_store.specs.Upgrading.{bare}
use Rattle.std.proofs.Common.{refl}
use Rattle.ob_store.proofs.migrating.has_old_rows.Goals as goal

pub holds_part-requires-clause-part : goal.holds_part-requires-clause-part
holds_part-requires-clause-part g c = is_part c.parts.at c.parts-test.true

pub holds_part-requires-clause-has : goal.holds_part-requires-clause-has
holds_part-requires-clause-has g c = is_had c.parts.at c.parts-test.true

pub parts-preserved : goal.parts-preserved
parts-preserved g c =
    let s = c.args.led.now.book.state in
    part_right g.S.Store s c.parts.at c.args.conn.now c.parts.conn c.holds_part.new.conn c.parts.invariant c.in-Ok-true.field-0 c.in-Ok-true.field-0-test (c.in-Ok-true.ensures (bare s) refl)

pub returns-in-Ok-false : goal.returns-in-Ok-false
returns-in-Ok-false g c =
    let s = c.args.led.now.book.state in
    part_wrong g.S.Store s c.parts.at c.args.conn.now c.parts.conn c.holds_part.new.conn c.parts.invariant c.in-Ok-false.field-0 c.in-Ok-false.field-0-test c.parts-test.true (c.in-Ok-false.ensures (bare s) refl)

pub returns-in-Err : goal.returns-in-Err
returns-in-Err g c =
    let s = c.args.led.now.book.state in
    part_failed g.S.Store s c.parts.at c.args.conn.now c.parts.conn c.holds_part.new.conn c.parts.invariant c.in-Err.stop (c.in-Err.ensures (bare s) refl)

pub returns : goal.returns
returns g c =
    let end : c.parts.at ≡ 8 = omega (arith, c.parts-test.false, c.parts.auto.at-end) in
    parts_right g.S.Store c.args.led.now.book.state c.parts.at c.args.conn.now c.parts.conn end c.parts.invariant

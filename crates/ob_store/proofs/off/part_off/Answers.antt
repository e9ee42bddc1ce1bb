use Rattle.ob_store.proofs.Differing.{part_failed, part_right, part_wrong}
use Rattle.ob_store.proofs.off.part_off.Goals as goal

pub returns-in-Ok-true : goal.returns-in-Ok-true
returns-in-Ok-true g c b same = part_right g.S.Store b c.args.table c.args.conn.now c.holds_part.new.conn c.in-Ok-true.field-0 c.in-Ok-true.field-0-test (c.in-Ok-true.ensures b same)

pub returns-in-Ok-false : goal.returns-in-Ok-false
returns-in-Ok-false g c b same = part_wrong g.S.Store b c.args.table c.args.conn.now c.holds_part.new.conn c.in-Ok-false.field-0 c.in-Ok-false.field-0-test (c.in-Ok-false.ensures b same)

pub returns-in-Err : goal.returns-in-Err
returns-in-Err g c b same = part_failed g.S.Store b c.args.table c.args.conn.now c.holds_part.new.conn c.in-Err.stop (c.in-Err.ensures b same)

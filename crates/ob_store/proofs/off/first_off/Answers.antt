use Rattle.std.proofs.Common.{Option, Ok, subst}
use Rattle.ob_sql_rows.specs.declared.table.Table.{Table}
use Rattle.ob_sql_rows.specs.declared.version.Version.TheVariants.{Two}
use Rattle.ob_store.specs.Differing.{IsFirstOffOf, NoneSo}
use Rattle.ob_store.specs.Finding.{Finds}
use Rattle.ob_store.proofs.Differing.{before_commands, before_failed, commands_off, moved_off, posted}
use Rattle.ob_store.proofs.off.first_off.Goals as goal

pub returns-in-Ok-Some : goal.returns-in-Ok-Some
returns-in-Ok-Some g c b same =
    before_commands g.S.Store b c.args.led.now.counted c.args.led.now.moved c.args.conn.now c.first_part_off.new.conn c.in-Ok-Some.table
    (subst (λ (found : Option Table). Finds g.S.Store Two (IsFirstOffOf 8 b) NoneSo c.args.conn.now c.first_part_off.new.conn (Ok found)) c.in-Ok-Some.field-0-is (c.in-Ok-Some.ensures b same))

pub returns-in-Err : goal.returns-in-Err
returns-in-Err g c b same = before_failed g.S.Store b c.args.led.now.counted c.args.led.now.moved c.args.conn.now c.first_part_off.new.conn c.in-Err.stop (c.in-Err.ensures b same)

pub returns-then-not-led : goal.returns-then-not-led
returns-then-not-led g c b same =
    commands_off g.S.Store b c.args.led.now.counted c.args.led.now.moved c.args.conn.now c.first_part_off.new.conn
    (subst (λ (found : Option Table). Finds g.S.Store Two (IsFirstOffOf 8 b) NoneSo c.args.conn.now c.first_part_off.new.conn (Ok found)) c.in-Ok-None.field-0-is (c.in-Ok-None.ensures b same)) c.if-not-led.true

pub returns-then-not-led-2 : goal.returns-then-not-led-2
returns-then-not-led-2 g c b same =
    moved_off g.S.Store b c.args.led.now.counted c.args.led.now.moved c.args.conn.now c.first_part_off.new.conn
    (subst (λ (found : Option Table). Finds g.S.Store Two (IsFirstOffOf 8 b) NoneSo c.args.conn.now c.first_part_off.new.conn (Ok found)) c.in-Ok-None.field-0-is (c.in-Ok-None.ensures b same)) c.if-not-led.false c.if-not-led-2.true

pub returns : goal.returns
returns g c b same =
    posted g.S.Store b c.args.led.now.counted c.args.led.now.moved c.args.conn.now c.first_part_off.new.conn
    (subst (λ (found : Option Table). Finds g.S.Store Two (IsFirstOffOf 8 b) NoneSo c.args.conn.now c.first_part_off.new.conn (Ok found)) c.in-Ok-None.field-0-is (c.in-Ok-None.ensures b same)) c.if-not-led.false c.if-not-led-2.false
    c.part_off.new.conn c.part_off.result (c.part_off.ensures b same)

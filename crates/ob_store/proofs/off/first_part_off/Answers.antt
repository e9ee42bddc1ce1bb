use Rattle.std.proofs.Common.{◌≡◌, ◌≢◌, ℕ, Option, Ok, get_or, subst, arith}
use Rattle.ob_sql_rows.specs.declared.table.Table.{Table}
use Rattle.ob_sql_rows.specs.declared.table.Table.TheVariants.{Meta}
use Rattle.ob_sql_rows.specs.declared.version.Version.TheVariants.{Two}
use Rattle.ob_store.specs.Differing.{IsOff, NoneSo}
use Rattle.ob_store.specs.Finding.{Finds}
use Rattle.ob_store.proofs.Differing.{Begun, all_right, first_parts, one_failed, one_right, one_wrong, part_at}
use Rattle.ob_store.proofs.off.first_part_off.Goals as goal

pub parts-preserved : goal.parts-preserved
parts-preserved g c b same =
    let t = get_or first_parts c.parts.at Meta in
    one_right g.S.Store b c.parts.at t (part_at c.parts.at c.parts-test.true) c.args.conn.now c.parts.conn c.part_off.new.conn (c.parts.invariant b same)
    (subst (λ (found : Option Table). Finds g.S.Store Two (IsOff b t) NoneSo c.parts.conn c.part_off.new.conn (Ok found)) c.in-Ok-None.field-0-is (c.in-Ok-None.ensures b same))

pub returns-in-Ok-Some : goal.returns-in-Ok-Some
returns-in-Ok-Some g c b same =
    let t = get_or first_parts c.parts.at Meta in
    one_wrong g.S.Store b c.parts.at t (part_at c.parts.at c.parts-test.true) c.args.conn.now c.parts.conn c.part_off.new.conn (c.parts.invariant b same) 8 c.in-Ok-Some.table
    (subst (λ (found : Option Table). Finds g.S.Store Two (IsOff b t) NoneSo c.parts.conn c.part_off.new.conn (Ok found)) c.in-Ok-Some.field-0-is (c.in-Ok-Some.ensures b same))

pub returns-in-Err : goal.returns-in-Err
returns-in-Err g c b same =
    let t = get_or first_parts c.parts.at Meta in
    one_failed g.S.Store b c.parts.at t (part_at c.parts.at c.parts-test.true) c.args.conn.now c.parts.conn c.part_off.new.conn (c.parts.invariant b same) 8 c.in-Err.stop (c.in-Err.ensures b same)

pub returns : goal.returns
returns g c b same =
    let end : c.parts.at ≡ 8 = omega (arith, c.parts-test.false, c.parts.auto.at-end) in
    let some : 8 ≢ 0 = omega arith in
    all_right g.S.Store b 8 c.args.conn.now c.parts.conn some (subst (λ (n : ℕ). Begun g.S.Store b n c.args.conn.now c.parts.conn) end (c.parts.invariant b same))

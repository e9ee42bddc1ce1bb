use Rattle.std.proofs.Common.{◌∙◌, ◌≤◌, ap, length, pos, arith}
use Rattle.std.specs.Int.{w64}
use Rattle.std.proofs.lemmas.Int.{ints, to_z_pos}
use Rattle.ob_post.proofs.Served.{served_small}
use Rattle.ob_post.proofs.run_amounts.served_delta.Goals as goal

pub overflow_cast-result : goal.overflow_cast-result
overflow_cast-result c =
    let few : length c.args.roll.now.customers ≤ 100_000 = omega (arith, ap length c.customers.ensures.customers, c.if-prove.false) in
    let small = served_small c.args.roll.now.customers c.args.section c.args.since c.args.until few c.requires in
    omega (arith, ints, small, c.served_seconds.ensures)

pub returns : goal.returns
returns c =
    let few : length c.args.roll.now.customers ≤ 100_000 = omega (arith, ap length c.customers.ensures.customers, c.if-prove.false) in
    let small = served_small c.args.roll.now.customers c.args.section c.args.since c.args.until few c.requires in
    to_z_pos w64 c.served_seconds.result (omega (arith, small, c.served_seconds.ensures)) ∙ ap pos c.served_seconds.ensures

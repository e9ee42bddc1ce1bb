use Rattle.std.proofs.Common.{◌≡◌, ◌<◌, length, arith, subst}
use Rattle.ob_net.specs.Apart.{KeepTo}
use Rattle.ob_net.proofs.Marked.{behind_more}
use Rattle.ob_net.proofs.search.join_behind.Goals as goal

pub loop-number-preserved : goal.loop-number-preserved
loop-number-preserved c =
    let within : c.loop-number.number < length c.args.devices.now = omega (arith, c.loop-number-test.true, c.requires.positions) in
    behind_more c.args.devices.now c.args.positions.now c.loop-number.number _ _ _ _ within c.index-devices-number.is (λ at. at)
    c.join_ends.ensures.forest c.join_ends.ensures.trees c.join_ends.ensures.keeps c.loop-number.invariant

pub returns-clause-trees : goal.returns-clause-trees
returns-clause-trees c =
    let last = c.loop-number-test.false in
    let end = c.loop-number.auto.number-end in
    let all : c.loop-number.number ≡ length c.args.devices.now = omega (arith, last, end, c.requires.positions) in
    λ test t. subst (λ n. KeepTo test c.args.devices.now c.args.positions.now n) all (c.loop-number.invariant.trees test t)

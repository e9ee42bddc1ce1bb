use Rattle.std.proofs.Common.{refl, sym, arith, true≢false}
use Rattle.ob_sql_read.proofs.Twins.{sorted_apart, twins_here, differs_here}
use Rattle.ob_sql_read.proofs.distinct.have_no_twins.Goals as goal

pub returns-then-eq : goal.returns-then-eq
returns-then-eq c =
    let all = c.args.sorted.now in
    (λ is. absurd (true≢false (sym is)), λ apart. absurd (twins_here all c.places.at c.places.auto.at c.places-test.true _ _ c.eq.result c.eq.ensures c.if-eq.true apart))

pub places-preserved : goal.places-preserved
places-preserved c =
    differs_here c.args.sorted.now c.places.at c.places.auto.at c.places-test.true _ _ c.eq.result c.eq.ensures c.if-eq.false c.places.invariant

pub returns : goal.returns
returns c = (λ _. sorted_apart c.args.sorted.now c.requires (λ k d low. c.places.invariant k d (omega (arith, low, c.places-test.false))), λ _. refl)

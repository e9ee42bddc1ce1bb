use Rattle.std.proofs.Common.{take, arith}
use Rattle.std.proofs.lemmas.Bool.{false≢true}
use Rattle.std.proofs.lemmas.List.{take_more_set}
use Rattle.jiff.specs.Words.{plain_zone, epoch_day}
use Rattle.ob_time.proofs.PeriodLemmas.{AreMidnights-push, AreMidnights-not-above}
use Rattle.ob_time.proofs.bounds.day_bounds_from.Goals as goal

pub returns-then-not-rises_to-clause-none : goal.returns-then-not-rises_to-clause-none
returns-then-not-rises_to-clause-none c = λ bounds h.
    let zone = plain_zone c.args.zone.now in
    let first = epoch_day c.args.first in
    let k = c.loop-k.k in
    let above = AreMidnights-not-above zone first k _ (take k c.loop-k.bounds) bounds c.in_ok-bound.bound c.loop-k.invariant h c.in_ok-bound.ensures.found (omega arith) in
    let rises = c.rises_to.ensures.1 (rw c.from-place.ensures above) in
    false≢true (rw c.if-not-rises_to.true at rises)

pub loop-k-preserved : goal.loop-k-preserved
loop-k-preserved c =
    let zone = plain_zone c.args.zone.now in
    let first = epoch_day c.args.first in
    let k = c.loop-k.k in
    let above = rw c.from-place.ensures at (c.rises_to.ensures.0 c.if-not-rises_to.false) in
    rw (c.from-place.ensures, take_more_set c.loop-k.bounds k c.in_ok-bound.bound (omega arith))
    (AreMidnights-push zone first k (take k c.loop-k.bounds) c.in_ok-bound.bound c.loop-k.invariant c.in_ok-bound.ensures.found above)

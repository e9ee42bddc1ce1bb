use Rattle.std.proofs.Common.{◌<◌, ◌≤◌, Option, drop, subst, sym, arith, rules}
use Rattle.std.specs.Option.{IfSome}
use Rattle.ob_sweep.specs.Changed.{changed}
use Rattle.ob_sweep.specs.declared.Run.{Run}
use Rattle.ob_time.specs.Calendar.{day_count, days_of, first_second_of, end_second_of}
use Rattle.ob_post.specs.Parts.{AreOfSameSeconds, part_from}
use Rattle.ob_post.proofs.PartByPart.{begins, next_bound, part_posted, part_within, parts_posted, same_seconds}
use Rattle.ob_post.proofs.posting.Posting.replace_by_parts.Goals as goal

pub loop-at-init : goal.loop-at-init
loop-at-init c =
    begins (day_count c.args.basis.now.period.now) (first_second_of c.args.basis.now.period.now) (end_second_of c.args.basis.now.period.now) c.args.self.now c.args.basis.now.sheet.now.entries (changed c.args.change.now c.args.basis.now.sheet.now.entries) c.args.basis.now.roll.now.customers (days_of c.args.basis.now.period.now) c.args.basis.now.feeder c.args.taken.now c.args.given.now
    c.first_second-at.result (search rules) c.requires.taken c.requires.given c.requires.taken_rise c.requires.given_rise

pub replace_part-requires-clause-was : goal.replace_part-requires-clause-was
replace_part-requires-clause-was c =
    let lo = first_second_of c.args.basis.now.period.now in
    let hi = end_second_of c.args.basis.now.period.now in
    let at = c.loop-at.at in
    let bound = next_bound (day_count c.args.basis.now.period.now) lo hi c.args.self.now c.args.basis.now.sheet.now.entries (changed c.args.change.now c.args.basis.now.sheet.now.entries) c.args.basis.now.roll.now.customers (days_of c.args.basis.now.period.now) c.args.basis.now.feeder c.args.taken.now c.args.given.now
    c.loop-at.self at c.loop-at.old c.loop-at.new c.end_second-end.result c.bound_behind-taken_until.result c.bound_behind-given_until.result c.min-until.result c.loop-at.invariant c.loop-at-test.true (search rules) c.bound_behind-taken_until.ensures c.bound_behind-given_until.ensures (search rules) in
    subst (λ (o : Option Run). IfSome o (λ r. (lo ≤ r.since) × (r.since < r.until) × (r.until ≤ hi))) (sym c.part_from-was.ensures)
    (part_within at c.min-until.result lo hi (drop c.loop-at.old c.args.taken.now) c.loop-at.invariant.first bound.0 bound.1)

pub replace_part-requires-clause-now : goal.replace_part-requires-clause-now
replace_part-requires-clause-now c =
    let lo = first_second_of c.args.basis.now.period.now in
    let hi = end_second_of c.args.basis.now.period.now in
    let at = c.loop-at.at in
    let bound = next_bound (day_count c.args.basis.now.period.now) lo hi c.args.self.now c.args.basis.now.sheet.now.entries (changed c.args.change.now c.args.basis.now.sheet.now.entries) c.args.basis.now.roll.now.customers (days_of c.args.basis.now.period.now) c.args.basis.now.feeder c.args.taken.now c.args.given.now
    c.loop-at.self at c.loop-at.old c.loop-at.new c.end_second-end.result c.bound_behind-taken_until.result c.bound_behind-given_until.result c.min-until.result c.loop-at.invariant c.loop-at-test.true (search rules) c.bound_behind-taken_until.ensures c.bound_behind-given_until.ensures (search rules) in
    subst (λ (o : Option Run). IfSome o (λ r. (lo ≤ r.since) × (r.since < r.until) × (r.until ≤ hi))) (sym c.part_from-now.ensures)
    (part_within at c.min-until.result lo hi (drop c.loop-at.new c.args.given.now) c.loop-at.invariant.first bound.0 bound.1)

pub replace_part-requires-clause-seconds : goal.replace_part-requires-clause-seconds
replace_part-requires-clause-seconds c =
    subst (λ (o : Option Run). AreOfSameSeconds o c.part_from-now.result) (sym c.part_from-was.ensures)
    (subst (λ (o : Option Run). AreOfSameSeconds (part_from c.loop-at.at c.min-until.result (drop c.loop-at.old c.args.taken.now)) o) (sym c.part_from-now.ensures)
    (same_seconds c.loop-at.at c.min-until.result (drop c.loop-at.old c.args.taken.now) (drop c.loop-at.new c.args.given.now)))

pub loop-at-preserved : goal.loop-at-preserved
loop-at-preserved c =
    let lo = first_second_of c.args.basis.now.period.now in
    let hi = end_second_of c.args.basis.now.period.now in
    let at = c.loop-at.at in
    let m = c.min-until.result in
    let bound = next_bound (day_count c.args.basis.now.period.now) lo hi c.args.self.now c.args.basis.now.sheet.now.entries (changed c.args.change.now c.args.basis.now.sheet.now.entries) c.args.basis.now.roll.now.customers (days_of c.args.basis.now.period.now) c.args.basis.now.feeder c.args.taken.now c.args.given.now
    c.loop-at.self at c.loop-at.old c.loop-at.new c.end_second-end.result c.bound_behind-taken_until.result c.bound_behind-given_until.result m c.loop-at.invariant c.loop-at-test.true (search rules) c.bound_behind-taken_until.ensures c.bound_behind-given_until.ensures (search rules) in
    part_posted (day_count c.args.basis.now.period.now) lo hi c.args.self.now c.args.basis.now.sheet.now.entries (changed c.args.change.now c.args.basis.now.sheet.now.entries) c.args.basis.now.roll.now.customers (days_of c.args.basis.now.period.now) c.args.basis.now.feeder c.args.taken.now c.args.given.now
    c.loop-at.self c.replace_part.new.self at m c.loop-at.old c.loop-at.new c.place_from-old.result c.place_from-new.result c.part_from-was.result c.part_from-now.result c.loop-at.invariant
    bound.0 bound.2 bound.3 c.place_from-old.ensures.within c.place_from-new.ensures.within c.place_from-old.ensures.left c.place_from-new.ensures.left c.part_from-was.ensures c.part_from-now.ensures c.in_ok-replace_part.ensures.posted

pub loop-at-smaller : goal.loop-at-smaller
loop-at-smaller c =
    let bound = next_bound (day_count c.args.basis.now.period.now) (first_second_of c.args.basis.now.period.now) (end_second_of c.args.basis.now.period.now) c.args.self.now c.args.basis.now.sheet.now.entries (changed c.args.change.now c.args.basis.now.sheet.now.entries) c.args.basis.now.roll.now.customers (days_of c.args.basis.now.period.now) c.args.basis.now.feeder c.args.taken.now c.args.given.now
    c.loop-at.self c.loop-at.at c.loop-at.old c.loop-at.new c.end_second-end.result c.bound_behind-taken_until.result c.bound_behind-given_until.result c.min-until.result c.loop-at.invariant c.loop-at-test.true (search rules) c.bound_behind-taken_until.ensures c.bound_behind-given_until.ensures (search rules) in
    omega (arith, bound.0, c.loop-at-test.true)

pub returns-clause-posted : goal.returns-clause-posted
returns-clause-posted c = λ old new b.
    parts_posted (day_count c.args.basis.now.period.now) (first_second_of c.args.basis.now.period.now) (end_second_of c.args.basis.now.period.now) c.args.self.now c.args.basis.now.sheet.now.entries (changed c.args.change.now c.args.basis.now.sheet.now.entries) c.args.basis.now.roll.now.customers (days_of c.args.basis.now.period.now) c.args.basis.now.feeder c.args.taken.now c.args.given.now
    c.loop-at.self c.loop-at.at c.loop-at.old c.loop-at.new c.end_second-end.result old new c.loop-at.invariant c.loop-at-test.false (search rules) b

use Rattle.std.proofs.Common.{arith, rules, take, ap, ◌≡◌, ◌∙◌, ◌+◌, FitsSigned, to_z-of_z, w32}
use Rattle.jiff.specs.Words.{plain_zone, epoch_day}
use Rattle.ob_time.proofs.PeriodLemmas.{at-front, bound-at-most, HasNoPeriod-front, HasNoPeriod-long, IsCalendar-midnights}
use Rattle.ob_time.proofs.period.Period.with_zone_text.Goals as goal

pub overflow_sub-bounds : goal.overflow_sub-bounds
overflow_sub-bounds c =
    let days = c.args.days in
    let b = take (days + 1) c.in-Some.bounds in
    let ok = c.in-Some.ensures.found in
    let len = ok.count in
    let first = at-front c.in-Some.bounds days 0 (omega arith) in
    let last = at-front c.in-Some.bounds days days (omega arith) in
    rw c.from-last.ensures (omega (arith, bound-at-most b 0 days ok.rising (omega arith) (omega arith), first, last))

pub returns-then-bounds-last-ge-TOO_LONG-clause-refused : goal.returns-then-bounds-last-ge-TOO_LONG-clause-refused
returns-then-bounds-last-ge-TOO_LONG-clause-refused c =
    let days = c.args.days in
    let b = take (days + 1) c.in-Some.bounds in
    let ok = c.in-Some.ensures.found in
    let long = rw c.from-last.ensures at c.if-bounds-last-ge-TOO_LONG.true in
    let first = at-front c.in-Some.bounds days 0 (omega arith) in
    let last = at-front c.in-Some.bounds days days (omega arith) in
    λ _. HasNoPeriod-long (plain_zone c.args.zone.now) (epoch_day c.args.first) days b ok (omega (arith, first, last, long))

pub returns-in_err-bounds-clause-always : goal.returns-in_err-bounds-clause-always
returns-in_err-bounds-clause-always c = λ none.
    let short = rw c.from-last.ensures at c.if-bounds-last-ge-TOO_LONG.false in
    absurd (HasNoPeriod-front (plain_zone c.args.zone.now) (epoch_day c.args.first) c.args.days c.in-Some.bounds (omega arith, omega arith) c.in-Some.ensures.found (omega (arith, short)) none)

pub returns-in_err-zone-clause-always : goal.returns-in_err-zone-clause-always
returns-in_err-zone-clause-always c = λ none.
    let short = rw c.from-last.ensures at c.if-bounds-last-ge-TOO_LONG.false in
    absurd (HasNoPeriod-front (plain_zone c.args.zone.now) (epoch_day c.args.first) c.args.days c.in-Some.bounds (omega arith, omega arith) c.in-Some.ensures.found (omega (arith, short)) none)

pub returns-clause-always : goal.returns-clause-always
returns-clause-always c = λ none.
    let short = rw c.from-last.ensures at c.if-bounds-last-ge-TOO_LONG.false in
    absurd (HasNoPeriod-front (plain_zone c.args.zone.now) (epoch_day c.args.first) c.args.days c.in-Some.bounds (omega arith, omega arith) c.in-Some.ensures.found (omega (arith, short)) none)

pub between-requires : goal.between-requires
between-requires c =
    let days = c.args.days in
    let short = rw c.from-last.ensures at c.if-bounds-last-ge-TOO_LONG.false in
    let low = at-front c.in-Some.bounds days 0 (omega arith) in
    let high = at-front c.in-Some.bounds days days (omega arith) in
    let items = rw c.from-last.ensures at c.in_ok-bounds.ensures.items in
    let first : c.to_unix_epoch_day-first_day.result ≡ epoch_day c.args.first = c.to_unix_epoch_day-first_day.ensures.value ∙ ap epoch_day c.to_plain.ensures in
    let fits : FitsSigned w32 c.to_unix_epoch_day-first_day.result = search rules in
    let day = to_z-of_z fits ∙ first in
    rw (items, day) (IsCalendar-midnights (plain_zone c.args.zone.now) (epoch_day c.args.first) days (take (days + 1) c.in-Some.bounds) _ (omega arith, omega arith) c.in-Some.ensures.found (omega (arith, short, low, high)))

use Rattle.std.proofs.Common.{◌≡◌, ◌+◌, ◌-◌, ℕ, Bool, false, ap, sym, ◌∙◌, arith}
use Rattle.ob_time.specs.Calendar.{Calendar, day_count}
use Rattle.ob_state.specs.State.{BookState}
use Rattle.ob_rows.proofs.Outages.{reaches}
use Rattle.ob_selections.specs.Listed.{is_same_month}
use Rattle.ob_selections.proofs.Prefixes.{one_more, stops}
use Rattle.ob_selections.proofs.months.month_end.Goals as goal

pub returns-then-not-branch-clause-end : goal.returns-then-not-branch-clause-end
returns-then-not-branch-clause-end g c =
    let b : BookState = c.args.book.now.state in
    let first = c.args.day + 1 in
    let n = c.loop-next.next - first in
    let same : ℕ → Bool = λ t. is_same_month b c.args.day t in
    let after = c.loop-next.invariant.after in
    let test = c.loop-next-test.true in
    let days : c.days-days.result ≡ day_count b.period = c.days-days.ensures.value ∙ ap (λ (p : Calendar). day_count p) (c.deref.ensures ∙ c.period.ensures) in
    let end : first + n ≡ c.loop-next.next = omega (arith, after) in
    let off : same (first + n) ≡ false = ap same end ∙ sym c.in_ok-is_same_month.ensures.same ∙ c.if-not-branch.true in
    let stop = stops same n (day_count b.period - first) first (omega (arith, after, test, days)) (λ t low high. c.loop-next.invariant.same t low (omega (arith, high, end))) off in
    omega (arith, stop, end)

pub loop-next-preserved : goal.loop-next-preserved
loop-next-preserved g c =
    let b : BookState = c.args.book.now.state in
    let after = c.loop-next.invariant.after in
    record {
      after = omega (arith, after);
      same = one_more (λ t. is_same_month b c.args.day t) (c.args.day + 1) c.loop-next.next c.loop-next.invariant.same (sym c.in_ok-is_same_month.ensures.same ∙ c.if-not-branch.false);
    }

pub returns-clause-end : goal.returns-clause-end
returns-clause-end g c =
    let b : BookState = c.args.book.now.state in
    let first = c.args.day + 1 in
    let n = day_count b.period - first in
    let test = c.loop-next-test.false in
    let low = c.requires in
    let days : c.days-days.result ≡ day_count b.period = c.days-days.ensures.value ∙ ap (λ (p : Calendar). day_count p) (c.deref.ensures ∙ c.period.ensures) in
    let all = reaches (λ t. is_same_month b c.args.day t) n first (λ t from to. c.loop-next.invariant.same t from (omega (arith, to, test, days, low))) in
    omega (arith, all, days, low)

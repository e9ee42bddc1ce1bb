use Rattle.std.proofs.Common.{◌≡◌, ◌∙◌, ap, arith}
use Rattle.ob_time.specs.Calendar.{Calendar, bound_of}
use Rattle.ob_state.specs.State.{BookState}
use Rattle.ob_selections.proofs.Bounds.{bound_at_most, days_short}
use Rattle.ob_selections.proofs.counting.days_of.Goals as goal

pub returns-clause-rising : goal.returns-clause-rising
returns-clause-rising g c =
    let b : BookState = c.args.book.now.state in
    let x = c.args.selection.now in
    let some = c.requires.selection.some in
    let first : c.bound.result ≡ bound_of b.period x.first = c.bound.ensures ∙ ap (λ (p : Calendar). bound_of p x.first) c.period.ensures in
    let end : c.bound-2.result ≡ bound_of b.period x.end = c.bound-2.ensures ∙ ap (λ (p : Calendar). bound_of p x.end) c.period-2.ensures in
    let le = bound_at_most b.period x.first x.end c.accepted.ensures.sound.period (omega (arith, some)) c.requires.selection.within in
    omega (arith, first, end, le)

pub returns-clause-short : goal.returns-clause-short
returns-clause-short g c =
    let b : BookState = c.args.book.now.state in
    let x = c.args.selection.now in
    let some = c.requires.selection.some in
    let first : c.bound.result ≡ bound_of b.period x.first = c.bound.ensures ∙ ap (λ (p : Calendar). bound_of p x.first) c.period.ensures in
    let end : c.bound-2.result ≡ bound_of b.period x.end = c.bound-2.ensures ∙ ap (λ (p : Calendar). bound_of p x.end) c.period-2.ensures in
    let short = days_short b.period x.first x.end c.accepted.ensures.sound.period (omega (arith, some)) c.requires.selection.within in
    omega (arith, first, end, short)

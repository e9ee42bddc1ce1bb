use Rattle.std.proofs.Common.{◌∷◌, []}
use Rattle.jiff_fmt.specs.Text.{pad2}
use Rattle.ob_time.proofs.date.date_numbers.Goals as goal

pub returns-in_err-month-clause-none : goal.returns-in_err-month-clause-none
returns-in_err-month-clause-none c =
    rw c.from_residual-in_err-month.ensures (λ y m d h.
    c.in_err-month.ensures m (45 ∷ pad2 d) h.month (cc (h.text_is, c.in_ok-year.ensures.1, c.in_ok-after.ensures.found)))

pub returns-in_err-day-clause-none : goal.returns-in_err-day-clause-none
returns-in_err-day-clause-none c =
    rw c.from_residual-in_err-day.ensures (λ y m d h.
    c.in_err-day.ensures d [] h.day
    (cc (h.text_is, c.in_ok-year.ensures.1, c.in_ok-after.ensures.found, c.in_ok-month.ensures.1, c.in_ok-after-2.ensures.found)))

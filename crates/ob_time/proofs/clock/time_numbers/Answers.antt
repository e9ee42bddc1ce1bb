use Rattle.std.proofs.Common.{◌∷◌, []}
use Rattle.jiff_fmt.specs.Text.{pad2}
use Rattle.ob_time.proofs.clock.time_numbers.Goals as goal

pub returns-in_err-minute-clause-none : goal.returns-in_err-minute-clause-none
returns-in_err-minute-clause-none c =
    rw c.from_residual-in_err-minute.ensures (λ h m s form.
    c.in_err-minute.ensures m (58 ∷ pad2 s) form.minute (cc (form.text_is, c.in_ok-hour.ensures.1, c.in_ok-after.ensures.found)))

pub returns-in_err-second-clause-none : goal.returns-in_err-second-clause-none
returns-in_err-second-clause-none c =
    rw c.from_residual-in_err-second.ensures (λ h m s form.
    c.in_err-second.ensures s [] form.second
    (cc (form.text_is, c.in_ok-hour.ensures.1, c.in_ok-after.ensures.found, c.in_ok-minute.ensures.1, c.in_ok-after-2.ensures.found)))

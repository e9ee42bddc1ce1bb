use Rattle.std.proofs.Common.{ap, Err}
use Rattle.ob_store.proofs.Reading.{if_ok}
use Rattle.ob_store.proofs.Leading.{bad_period, new_of, no_period_of}
use Rattle.ob_store.proofs.led.new_book.Goals as goal

pub returns-in-Err-Refused-clause-none : goal.returns-in-Err-Refused-clause-none
returns-in-Err-Refused-clause-none g c is =
    no_period_of c.args.heading.now c.deref.result.now c.deref-2.result.now c.deref.ensures.value c.deref-2.ensures.value (c.in-Err-Refused.ensures.refused.0 (ap Err (bad_period c.in-Err-Refused.field-0 _ c.in-Err-Refused.field-0-is c.in-Err-Refused.ensures.errors)))

pub returns-in-Ok-date_text-clause-new : goal.returns-in-Ok-date_text-clause-new
returns-in-Ok-date_text-clause-new g c =
    if_ok c.new.result c.new.ensures.state (λ b is.
    new_of c.args.heading.now c.deref.result.now c.deref-2.result.now c.deref.ensures.value c.deref-2.ensures.value
    c.in-Ok.period _ c.in-Ok.ensures.ok c.in-Ok.ensures.only c.in-Ok-date_text.ensures.value c.in-Ok-date_text.ensures.only b.state is)

use Rattle.std.proofs.Common.{Ok, inl, ap, ◌∙◌}
use Rattle.ob_sql_rows.specs.declared.version.Version.TheVariants.{Two}
use Rattle.ob_store.proofs.Leading.{led_by, stuck}
use Rattle.ob_store.proofs.Searching.{searched_by}
use Rattle.ob_store.proofs.led.again.Goals as goal

pub returns-in-Err-clause-nowhere : goal.returns-in-Err-clause-nowhere
returns-in-Err-clause-nowhere g c is = inl (c.in-Err.ensures.none is)

pub returns-in-Ok-true-clause-led : goal.returns-in-Ok-true-clause-led
returns-in-Ok-true-clause-led g c =
    let it = c.args.named.now in
    let begun = c.in-Ok.ensures.begun in
    let first = c.in-Ok.led.book.state in
    let s = c.lead.new.book.state in
    let accepted = c.in-Ok-true.is ∙ ap Ok c.in-Ok-true.field-0-test in (
      led_by Two it first begun.new c.deref.result.now c.deref.ensures.value s (c.lead.ensures.book accepted),
      c.lead.ensures.noted accepted begun.laid_out,
      c.in-Ok.ensures.moved,
      c.in-Ok.ensures.counted,
    )

pub returns-in-Ok-false-clause-nowhere : goal.returns-in-Ok-false-clause-nowhere
returns-in-Ok-false-clause-nowhere g c is =
    stuck c.args.named.now c.in-Ok.led.book.state c.in-Ok.ensures.begun.new c.deref.result.now c.deref.ensures.value c.in-Ok-false.field-0 c.in-Ok-false.field-0-test c.in-Ok-false.ensures.accepted

pub returns-in-Ok-true-clause-searches : goal.returns-in-Ok-true-clause-searches
returns-in-Ok-true-clause-searches g c =
    searched_by g.T.Timeline.bound c.args.named.now c.in-Ok.led.book.state c.in-Ok.ensures.begun.new c.deref.result.now c.deref.ensures.value c.lead.new.book.searches c.in-Ok.led.book.searches c.in-Ok.ensures.searches c.lead.ensures.searches

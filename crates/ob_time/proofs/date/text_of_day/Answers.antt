use Rattle.std.proofs.Common.{◌≡◌, ◌∙◌, arith, ap, rules}
use Rattle.jiff.specs.Words.{epoch_day}
use Rattle.jiff.proofs.SpanFacts.{signed_arith}
use Rattle.ob_time.proofs.DateLemmas.{day_text-is}
use Rattle.ob_time.proofs.PeriodLemmas.{year-nonnegative}
use Rattle.ob_time.proofs.date.text_of_day.Goals as goal

pub returns-clause-ok : goal.returns-clause-ok
returns-clause-ok c =
    let low = c.requires.low in
    let day : epoch_day c.from_plain-date.result ≡ c.args.day = ap epoch_day c.from_plain-date.ensures ∙ search rules in
    (c.from_plain-date.result, day, (year-nonnegative c.from_plain-date.result (omega (arith, signed_arith, day, low)), c.in_ok-format.ensures.ok))

pub returns-clause-value : goal.returns-clause-value
returns-clause-value c = day_text-is _ _ (returns-clause-ok c)

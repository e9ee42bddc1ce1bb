use Rattle.std.proofs.lemmas.Result.{IfOk-weaker}
use Rattle.ob_time.specs.Period.{IsPeriodText}
use Rattle.ob_time.proofs.PeriodLemmas.{IsPeriodText-made, IsPeriodText-period, IsPeriodText-unique, IfOk-both}
use Rattle.jiff.specs.Words.{plain_zone}
use Rattle.ob_time.proofs.period.Period.from_text.Goals as goal

pub returns-clause-ok : goal.returns-clause-ok
returns-clause-ok c =
    IfOk-both c.with_zone_text.result _ _ (IsPeriodText c.args.first.now c.args.days c.args.zone.now)
    (λ p period text. record {
      date = c.in-Some.date;
      date_is = c.in-Some.ensures.found;
      rule = plain_zone c.in-Some-read_zone.rule;
      rule_is = c.in-Some-read_zone.ensures.found;
      period = period;
      zone_is = text;
    })
    c.with_zone_text.ensures.ok c.with_zone_text.ensures.zone

pub returns-clause-only : goal.returns-clause-only
returns-clause-only c =
    IfOk-weaker c.with_zone_text.result _ _ (λ p h k other. IsPeriodText-unique c.args.first.now c.args.days c.args.zone.now k p other h) (returns-clause-ok c)

pub returns-clause-refused : goal.returns-clause-refused
returns-clause-refused c =
    let date = c.in-Some.ensures.found in
    let rule = c.in-Some-read_zone.ensures.found in (
      λ e k h. c.with_zone_text.ensures.refused e k (IsPeriodText-period _ _ _ k c.in-Some.date _ date rule h),
      λ none. c.with_zone_text.ensures.always (λ k p. none _ (IsPeriodText-made _ _ _ k c.in-Some.date _ date rule p)),
    )

use Rattle.std.proofs.Common.{◌≡◌, ◌∙◌, ap, pos, ◌+ℤ◌, rules, FitsSigned, to_z, of_z, to_z-of_z, w64}
use Rattle.std.proofs.lemmas.Result.{IfOk-weaker}
use Rattle.ob_time.specs.Calendar.{Calendar}
use Rattle.ob_time.proofs.PeriodLemmas.{IsTextOfDay-unique}
use Rattle.ob_time.proofs.period.Period.date_text.Goals as goal

pub returns-clause-ok : goal.returns-clause-ok
returns-clause-ok c =
    let fits : FitsSigned w64 c.day_number.result = search rules in
    let first = ap (λ (k : Calendar). k.first_day +ℤ pos c.args.day) c.self.view_is in
    let day : to_z w64 (of_z w64 c.day_number.result) ≡ c.args.self.now.first_day +ℤ pos c.args.day = to_z-of_z fits ∙ c.day_number.ensures.value ∙ first in
    rw day at c.text_of_day.ensures.ok

pub returns-clause-only : goal.returns-clause-only
returns-clause-only c =
    IfOk-weaker c.text_of_day.result _ _ (λ t h text other. IsTextOfDay-unique text _ _ other h) (returns-clause-ok c)

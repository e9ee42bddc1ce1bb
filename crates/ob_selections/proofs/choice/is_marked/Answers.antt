use Rattle.std.proofs.Common.{ℕ, List, Option, sym, ap₂, ◌∙◌}
use Rattle.ob_base.specs.declared.interval.Interval.{Interval}
use Rattle.ob_time.specs.Calendar.{Calendar}
use Rattle.ob_index.specs.Interruptions.{is_marked}
use Rattle.ob_index.proofs.MarkedDays.{marked_as, unmarked_outside}
use Rattle.ob_selections.proofs.choice.is_marked.Goals as goal

pub returns-in-Some : goal.returns-in-Some
returns-in-Some g c =
    let days : Calendar = c.deref.result.now in
    let marks = c.marks-marks.result.now in
    let i : Interval = c.args.interruption.now in
    c.is_marked.ensures ∙ sym (marked_as days marks i c.in-Some.day c.in-Some.ensures.found c.in-Some.ensures.only)
    ∙ ap₂ (λ (d : Calendar) (m : List (Option (List ℕ))). is_marked d m i) (c.deref.ensures ∙ c.period.ensures) c.marks-marks.ensures.marks

pub returns-in-None : goal.returns-in-None
returns-in-None g c =
    let days : Calendar = c.deref.result.now in
    let marks = c.marks-marks.result.now in
    let i : Interval = c.args.interruption.now in
    sym (unmarked_outside days marks i c.in-None.ensures.none)
    ∙ ap₂ (λ (d : Calendar) (m : List (Option (List ℕ))). is_marked d m i) (c.deref.ensures ∙ c.period.ensures) c.marks-marks.ensures.marks

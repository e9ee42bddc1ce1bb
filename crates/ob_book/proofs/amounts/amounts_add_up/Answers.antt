use Rattle.std.proofs.Common.{◌∙◌, subst}
use Rattle.ob_time.specs.Calendar.{Calendar, PartSeconds, days_of, end_second_of, first_second_of}
use Rattle.ob_book.proofs.Showing.{total_is}
use Rattle.ob_book.proofs.amounts.amounts_add_up.Goals as goal

pub returns : goal.returns
returns c =
    let b = c.args.state.now.state in
    let parts : PartSeconds (first_second_of b.period) (end_second_of b.period) (days_of b.period) =
    subst (λ (p : Calendar). PartSeconds (first_second_of p) (end_second_of p) (days_of p)) (c.deref.ensures ∙ c.period.ensures) c.days.ensures.parts in
    record { totals = λ dim. total_is b c.args.postings.now dim c.total_laws.ensures.agree c.total_laws.ensures.add_up c.requires.posted c.accepted.ensures.sound parts }

use Rattle.ob_time.specs.Calendar.{days_of}
use Rattle.ob_post.specs.SectionAmounts.{amount_of_runs}
use Rattle.ob_post.specs.Balances.{together}
use Rattle.ob_post.proofs.posting.Posting.replace_between.Goals as goal

pub returns-clause-posted : goal.returns-clause-posted
returns-clause-posted c = λ old new b.
    c.give_changed.ensures.given (together old (amount_of_runs c.args.basis.now.sheet.now.entries c.args.basis.now.roll.now.customers (days_of c.args.basis.now.period.now) c.args.basis.now.feeder c.args.taken.now)) new (c.in_ok-take.ensures.taken old new b)

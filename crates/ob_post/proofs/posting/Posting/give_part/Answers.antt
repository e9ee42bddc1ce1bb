use Rattle.std.proofs.Common.{◌+◌, ◌∷◌, [], ap, refl, ℕ}
use Rattle.std.proofs.lemmas.Result.{on_ok_weaker}
use Rattle.ob_sweep.specs.Changed.{changed}
use Rattle.ob_time.specs.Calendar.{day_count, days_of}
use Rattle.ob_post.specs.SectionAmounts.{amount_of_runs}
use Rattle.ob_post.specs.Balances.{together}
use Rattle.ob_post.specs.Parts.{amount_of_part}
use Rattle.ob_post.proofs.Balancing.{balances_as}
use Rattle.ob_post.proofs.PartByPart.{part_as_runs}
use Rattle.ob_post.proofs.posting.Posting.give_part.Goals as goal

pub returns-in-Some-clause-given : goal.returns-in-Some-clause-given
returns-in-Some-clause-given c = λ old new b.
    let now = changed c.args.change.now c.args.basis.now.sheet.now.entries in
    let roll = c.args.basis.now.roll.now.customers in
    let days = days_of c.args.basis.now.period.now in
    let f = c.args.basis.now.feeder in
    let run = c.in-Some.run' in
    on_ok_weaker c.give_changed.result
    (λ h. balances_as (day_count c.args.basis.now.period.now) c.give_changed.new.self old (together new (amount_of_runs now roll days f (run ∷ []))) old (together new (amount_of_part now roll days f c.args.part))
    (λ dim key. refl) (λ dim key. ap (λ (n : ℕ). new dim key + n) (part_as_runs now roll days f c.args.part run dim key c.in-Some.is)) h)
    (c.give_changed.ensures.given old new b)

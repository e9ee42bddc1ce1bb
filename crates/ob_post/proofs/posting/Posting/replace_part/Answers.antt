use Rattle.std.proofs.Common.{◌+◌, ap, refl, Option, Some, arith}
use Rattle.std.proofs.lemmas.Result.{on_ok_weaker}
use Rattle.ob_sweep.specs.Changed.{changed}
use Rattle.ob_sweep.specs.declared.Run.{Run}
use Rattle.ob_time.specs.Calendar.{day_count, days_of}
use Rattle.ob_post.specs.Balances.{together}
use Rattle.ob_post.specs.Parts.{amount_of_part}
use Rattle.ob_post.proofs.Balancing.{balances_as}
use Rattle.ob_post.proofs.posting.Posting.replace_part.Goals as goal

pub returns-in-Some-clause-posted : goal.returns-in-Some-clause-posted
returns-in-Some-clause-posted c = λ old new b.
    let was = c.args.basis.now.sheet.now.entries in
    let now = changed c.args.change.now was in
    let roll = c.args.basis.now.roll.now.customers in
    let days = days_of c.args.basis.now.period.now in
    let f = c.args.basis.now.feeder in
    on_ok_weaker c.replace_run.result
    (λ h. balances_as (day_count c.args.basis.now.period.now) c.replace_run.new.self (together old (amount_of_part was roll days f (Some c.in-Some.run'))) (together new (amount_of_part now roll days f c.args.now))
    (together old (amount_of_part was roll days f c.args.was)) (together new (amount_of_part now roll days f c.args.now))
    (λ dim key. ap (λ (o : Option Run). old dim key + amount_of_part was roll days f o dim key) c.in-Some.is) (λ dim key. refl) h)
    (c.replace_run.ensures.posted old new b)

pub returns-in-None-clause-posted : goal.returns-in-None-clause-posted
returns-in-None-clause-posted c = λ old new b.
    let was = c.args.basis.now.sheet.now.entries in
    let now = changed c.args.change.now was in
    let roll = c.args.basis.now.roll.now.customers in
    let days = days_of c.args.basis.now.period.now in
    let f = c.args.basis.now.feeder in
    on_ok_weaker c.give_part.result
    (λ h. balances_as (day_count c.args.basis.now.period.now) c.give_part.new.self old (together new (amount_of_part now roll days f c.args.now))
    (together old (amount_of_part was roll days f c.args.was)) (together new (amount_of_part now roll days f c.args.now))
    (λ dim key. let none = ap (λ (o : Option Run). amount_of_part was roll days f o dim key) c.in-None.is in omega (arith, none)) (λ dim key. refl) h)
    (c.give_part.ensures.given old new b)

use Rattle.std.proofs.Common.{◌+◌, ◌∷◌, [], ap, refl, sym, ℕ, Some}
use Rattle.std.proofs.lemmas.Result.{on_ok_weaker}
use Rattle.ob_sweep.specs.Changed.{changed}
use Rattle.ob_time.specs.Calendar.{day_count, days_of}
use Rattle.ob_post.specs.RunAmounts.{customer_seconds_in}
use Rattle.ob_post.specs.SectionAmounts.{amount_of_runs}
use Rattle.ob_post.specs.Balances.{together}
use Rattle.ob_post.specs.Parts.{amount_of_part}
use Rattle.ob_post.proofs.Balancing.{balances_as}
use Rattle.ob_post.proofs.PartByPart.{part_as_run, part_as_runs}
use Rattle.ob_post.proofs.SmallCauses.{run_small}
use Rattle.ob_post.proofs.posting.Posting.replace_run.Goals as goal

pub relabel_run-requires-clause-before : goal.relabel_run-requires-clause-before
relabel_run-requires-clause-before c = rw c.cause_before-before.ensures (run_small c.args.basis.now.sheet.now.entries c.args.run c.requires.change.before)

pub relabel_run-requires-clause-after : goal.relabel_run-requires-clause-after
relabel_run-requires-clause-after c = rw c.cause_after-after.ensures (run_small (changed c.args.change.now c.args.basis.now.sheet.now.entries) c.in-Some.other c.requires.change.after)

pub returns-in-Some-clause-posted : goal.returns-in-Some-clause-posted
returns-in-Some-clause-posted c = λ old new b.
    let was = c.args.basis.now.sheet.now.entries in
    let now = changed c.args.change.now was in
    let roll = c.args.basis.now.roll.now.customers in
    let days = days_of c.args.basis.now.period.now in
    let f = c.args.basis.now.feeder in
    let run = c.args.run in
    let before = c.cause_before-before.result in
    let after = c.cause_after-after.result in
    let of = c.of_section.ensures c.in-Some.other c.in-Some.is in
    on_ok_weaker c.relabel_run.result
    (λ h. balances_as (day_count c.args.basis.now.period.now) c.relabel_run.new.self (together old (customer_seconds_in roll run before f days)) (together new (customer_seconds_in roll run after f days))
    (together old (amount_of_part was roll days f (Some run))) (together new (amount_of_part now roll days f c.args.part))
    (λ dim key. ap (λ (n : ℕ). old dim key + n) (part_as_run was roll days f before (Some run) run run dim key refl refl (refl, refl) c.cause_before-before.ensures))
    (λ dim key. ap (λ (n : ℕ). new dim key + n) (part_as_run now roll days f after c.args.part run c.in-Some.other dim key of.0 (sym of.1) (c.requires.seconds run c.in-Some.other refl of.0) c.cause_after-after.ensures))
    h)
    (c.relabel_run.ensures.posted f old new b)

pub returns-clause-posted : goal.returns-clause-posted
returns-clause-posted c = λ old new b.
    let was = c.args.basis.now.sheet.now.entries in
    let now = changed c.args.change.now was in
    let roll = c.args.basis.now.roll.now.customers in
    let days = days_of c.args.basis.now.period.now in
    let f = c.args.basis.now.feeder in
    let run = c.args.run in
    on_ok_weaker c.give_part.result
    (λ h. balances_as (day_count c.args.basis.now.period.now) c.give_part.new.self (together old (amount_of_runs was roll days f (run ∷ []))) (together new (amount_of_part now roll days f c.args.part))
    (together old (amount_of_part was roll days f (Some run))) (together new (amount_of_part now roll days f c.args.part))
    (λ dim key. ap (λ (n : ℕ). old dim key + n) (part_as_runs was roll days f (Some run) run dim key refl)) (λ dim key. refl) h)
    (c.give_part.ensures.given (together old (amount_of_runs was roll days f (run ∷ []))) new (c.in_ok-take.ensures.taken old new b))

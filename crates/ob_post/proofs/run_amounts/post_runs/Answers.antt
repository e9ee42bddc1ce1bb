use Rattle.std.proofs.Common.{◌∙◌, ◌+ℤ◌, ℕ, List, None, ap, pos}
use Rattle.std.specs.List.{zip}
use Rattle.ob_time.specs.Calendar.{days_of, day_count}
use Rattle.ob_sweep.specs.declared.Run.{Run}
use Rattle.ob_post.specs.Moved.{delta_of}
use Rattle.ob_post.specs.SectionAmounts.{amount_of_posted}
use Rattle.ob_post.proofs.Appended.{one_posted, all_posted, by_cutters, first_stay}
use Rattle.ob_post.proofs.run_amounts.post_runs.Goals as goal

-- the run past the end of a list
abbrev absent : Run
absent = record { section = 0; since = 0; until = 0; cutter = None }

pub returns-in_err-post_run-clause-kept : goal.returns-in_err-post_run-clause-kept
returns-in_err-post_run-clause-kept c =
    first_stay c.args.rows.now.items c.loop-place.rows.items c.post_run.new.rows.items c.loop-place.invariant.more c.loop-place.invariant.appended c.in_err-post_run.ensures.kept

pub loop-place-preserved : goal.loop-place-preserved
loop-place-preserved c =
    one_posted c.args.roll.now.customers c.args.runs.now c.args.causes.now c.args.feeder (days_of c.args.period.now) (day_count c.args.period.now) c.args.rows.now.items c.loop-place.rows.items c.post_run.new.rows.items c.loop-place.place absent
    c.loop-place.invariant c.requires.each c.loop-place-test.true c.in_ok-post_run.ensures.kept c.in_ok-post_run.ensures.keys c.in_ok-post_run.ensures.amounts

pub returns-clause-posted : goal.returns-clause-posted
returns-clause-posted c = λ dim key.
    all_posted c.args.roll.now.customers c.args.runs.now c.args.causes.now c.args.feeder (days_of c.args.period.now) (day_count c.args.period.now) c.args.rows.now.items c.loop-place.rows.items c.loop-place.place dim key
    c.loop-place.invariant c.requires.each c.loop-place-test.false

pub returns-clause-amounts : goal.returns-clause-amounts
returns-clause-amounts c = λ entries e dim key.
    let roll = c.args.roll.now.customers in
    let days = days_of c.args.period.now in
    let amount : List ℕ → ℕ = λ causes. amount_of_posted roll days c.args.feeder (zip c.args.runs.now causes) dim key in
    returns-clause-posted c dim key
    ∙ ap (λ (n : ℕ). delta_of c.args.rows.now.items dim key +ℤ pos n) (ap amount e ∙ by_cutters entries roll days c.args.feeder c.args.runs.now dim key)

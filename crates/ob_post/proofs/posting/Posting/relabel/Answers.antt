use Rattle.std.proofs.Common.{subst, get_or, None}
use Rattle.std.proofs.lemmas.Result.{on_ok_weaker}
use Rattle.ob_sweep.specs.Changed.{changed}
use Rattle.ob_sweep.specs.declared.Run.{Run}
use Rattle.ob_time.specs.Calendar.{day_count, days_of}
use Rattle.ob_post.specs.Causes.{StayBut}
use Rattle.ob_post.proofs.RunLists.{none_recaused, one_recaused}
use Rattle.ob_post.proofs.SmallCauses.{run_small}
use Rattle.ob_post.proofs.posting.Posting.relabel.Goals as goal

-- the run past the end of a list
abbrev absent : Run
absent = record { section = 0; since = 0; until = 0; cutter = None }

pub returns-in_default-clause-posted : goal.returns-in_default-clause-posted
returns-in_default-clause-posted c = λ old new b.
    let was = c.args.basis.now.sheet.now.entries in
    let now = changed c.args.change.now was in
    none_recaused (day_count c.args.basis.now.period.now) c.args.self.now was now c.args.basis.now.roll.now.customers (days_of c.args.basis.now.period.now) c.args.basis.now.feeder c.args.runs.now old new
    (subst (λ place. StayBut place was now c.args.runs.now) c.in_default.is (c.place_recaused.ensures.others was c.requires.change.applies c.requires.change.numbered c.requires.cut))
    b

pub relabel_run-requires-clause-before : goal.relabel_run-requires-clause-before
relabel_run-requires-clause-before c = rw c.cause_before-before.ensures (run_small c.args.basis.now.sheet.now.entries (get_or c.args.runs.now c.in-Some.place absent) c.requires.change.before)

pub relabel_run-requires-clause-after : goal.relabel_run-requires-clause-after
relabel_run-requires-clause-after c = rw c.cause_after-after.ensures (run_small (changed c.args.change.now c.args.basis.now.sheet.now.entries) (get_or c.args.runs.now c.in-Some.place absent) c.requires.change.after)

pub returns-clause-posted : goal.returns-clause-posted
returns-clause-posted c = λ old new b.
    let was = c.args.basis.now.sheet.now.entries in
    let now = changed c.args.change.now was in
    let runs = c.args.runs.now in
    let stay = subst (λ place. StayBut place was now runs) c.in-Some.is (c.place_recaused.ensures.others was c.requires.change.applies c.requires.change.numbered c.requires.cut) in
    on_ok_weaker c.relabel_run.result
    (λ h. one_recaused (day_count c.args.basis.now.period.now) c.relabel_run.new.self was now c.args.basis.now.roll.now.customers (days_of c.args.basis.now.period.now) c.args.basis.now.feeder runs c.in-Some.place absent
    c.cause_before-before.result c.cause_after-after.result old new c.in-Some.ensures.within stay c.cause_before-before.ensures c.cause_after-after.ensures h)
    (c.relabel_run.ensures.posted c.args.basis.now.feeder old new b)

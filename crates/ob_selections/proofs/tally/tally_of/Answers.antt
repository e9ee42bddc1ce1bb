use Rattle.std.proofs.Common.{◌≡◌, ◌+◌, List, take, take_all, not, sym, ap, subst, ◌∙◌, arith, refl}
use Rattle.std.specs.List.{count_by, filter, sum_by}
use Rattle.ob_base.specs.Seconds.{seconds}
use Rattle.ob_base.specs.declared.interval.Interval.{Interval}
use Rattle.ob_cust.specs.Service.{in_service}
use Rattle.ob_sweep.specs.declared.Run.{Run}
use Rattle.ob_time.specs.Calendar.{Calendar, first_second_of, end_second_of}
use Rattle.ob_index.specs.Interruptions.{duration}
use Rattle.ob_index.proofs.Sections.{service_short as period_short}
use Rattle.ob_index.proofs.Tallied.{has_some, next_within, within_service}
use Rattle.ob_state.specs.State.{BookState}
use Rattle.ob_selections.specs.Selections.{is_selected, lasts_longer}
use Rattle.ob_selections.specs.Tallies.{customer_of, tally_by_runs}
use Rattle.ob_selections.proofs.Tallied.{passing, same_tally, service_short, tallied_more, tallied_same}
use Rattle.ob_selections.proofs.tally.tally_of.Goals.{then-is_interruption, else-is_interruption}
use Rattle.ob_selections.proofs.tally.tally_of.Goals as goal

pub loop-run-init : goal.loop-run-init
loop-run-init g c =
    let block = c.args.block.now in
    let days = c.requires.days in
    record {
      tallied = record { sustained = refl; seconds = refl; momentary = refl; few_sustained = omega arith; few_seconds = omega arith; few_momentary = omega arith };
      served = c.saturating_sub.ensures ∙ c.part_in_service-served.ensures.seconds ∙ ap (λ (i : Interval). count_by (in_service (customer_of block)) (seconds i.since i.until)) days;
    }

pub loop-run-preserved : goal.loop-run-preserved
loop-run-preserved g c =
    let b : BookState = c.args.book.now.state in
    let x = c.args.selection.now in
    let block = c.args.block.now in
    let passes = is_selected b x block.section in
    elim c.if-is_interruption.branch [
      | then-is_interruption w ↦
          rw w.tally-is (record {
            tallied = tallied_more passes x.longest (customer_of block) c.args.runs.now c.loop-run.run-index _ c.part_in_service-part.result c.loop-run.tally w.add.new.tally
                c.loop-run-test.true c.part_in_service-part.ensures.part c.loop-run.invariant.tallied (sym c.is_interruption.ensures ∙ w.if-is_interruption.true)
                w.add.ensures.sustained w.add.ensures.seconds w.add.ensures.momentary;
            served = w.add.ensures.served ∙ c.loop-run.invariant.served;
          })
      | else-is_interruption w ↦
          rw w.tally-is (record {
            tallied = tallied_same passes x.longest (customer_of block) c.args.runs.now c.loop-run.run-index _ c.part_in_service-part.result c.loop-run.tally c.loop-run.tally
                c.loop-run-test.true c.part_in_service-part.ensures.part c.loop-run.invariant.tallied (sym c.is_interruption.ensures ∙ w.if-is_interruption.false);
            served = c.loop-run.invariant.served;
          })
    ]

pub add-requires-clause-sustained : goal.add-requires-clause-sustained
add-requires-clause-sustained g c =
    let b : BookState = c.args.book.now.state in
    let within = next_within (customer_of c.args.block.now) (first_second_of b.period) (end_second_of b.period) c.args.runs.now c.loop-run.run-index _ c.part_in_service-part.result
    c.loop-run-test.true c.part_in_service-part.ensures.part c.requires.some c.requires.rising c.requires.within in
    let few = c.loop-run.invariant.tallied.few_sustained in
    let long = has_some c.part_in_service-part.result _ (sym c.is_interruption.ensures ∙ c.if-is_interruption.true) in
    let period : c.deref.result.now ≡ b.period = c.deref.ensures ∙ c.period.ensures in
    let length : c.length.result + first_second_of b.period ≡ end_second_of b.period = subst (λ (p : Calendar). c.length.result + first_second_of p ≡ end_second_of p) period c.length.ensures.value in
    let short = c.length.ensures.short in
    omega (arith, within, few, long, length, short)

pub add-requires-clause-seconds : goal.add-requires-clause-seconds
add-requires-clause-seconds g c =
    let b : BookState = c.args.book.now.state in
    let within = next_within (customer_of c.args.block.now) (first_second_of b.period) (end_second_of b.period) c.args.runs.now c.loop-run.run-index _ c.part_in_service-part.result
    c.loop-run-test.true c.part_in_service-part.ensures.part c.requires.some c.requires.rising c.requires.within in
    let few = c.loop-run.invariant.tallied.few_seconds in
    let period : c.deref.result.now ≡ b.period = c.deref.ensures ∙ c.period.ensures in
    let length : c.length.result + first_second_of b.period ≡ end_second_of b.period = subst (λ (p : Calendar). c.length.result + first_second_of p ≡ end_second_of p) period c.length.ensures.value in
    let short = c.length.ensures.short in
    omega (arith, within, few, length, short)

pub add-requires-clause-momentary : goal.add-requires-clause-momentary
add-requires-clause-momentary g c =
    let b : BookState = c.args.book.now.state in
    let within = next_within (customer_of c.args.block.now) (first_second_of b.period) (end_second_of b.period) c.args.runs.now c.loop-run.run-index _ c.part_in_service-part.result
    c.loop-run-test.true c.part_in_service-part.ensures.part c.requires.some c.requires.rising c.requires.within in
    let few = c.loop-run.invariant.tallied.few_momentary in
    let long = has_some c.part_in_service-part.result _ (sym c.is_interruption.ensures ∙ c.if-is_interruption.true) in
    let period : c.deref.result.now ≡ b.period = c.deref.ensures ∙ c.period.ensures in
    let length : c.length.result + first_second_of b.period ≡ end_second_of b.period = subst (λ (p : Calendar). c.length.result + first_second_of p ≡ end_second_of p) period c.length.ensures.value in
    let short = c.length.ensures.short in
    omega (arith, within, few, long, length, short)

pub returns-clause-tally : goal.returns-clause-tally
returns-clause-tally g c =
    let b : BookState = c.args.book.now.state in
    let x = c.args.selection.now in
    let block = c.args.block.now in
    let runs = c.args.runs.now in
    let kept : List Run → List Interval = λ rs. passing (is_selected b x block.section) (customer_of block) rs in
    let all : take c.loop-run.run-index runs ≡ runs = take_all c.loop-run.run-index runs (omega (arith, c.loop-run-test.false)) in
    let sofar = c.loop-run.invariant.tallied in
    same_tally c.loop-run.tally (tally_by_runs b x runs block)
    (sofar.sustained ∙ ap (λ (rs : List Run). count_by (lasts_longer x.longest) (kept rs)) all)
    (sofar.seconds ∙ ap (λ (rs : List Run). sum_by duration (filter (lasts_longer x.longest) (kept rs))) all)
    (sofar.momentary ∙ ap (λ (rs : List Run). count_by (λ i. not (lasts_longer x.longest i)) (kept rs)) all)
    c.loop-run.invariant.served

pub returns-clause-small : goal.returns-clause-small
returns-clause-small g c =
    let b : BookState = c.args.book.now.state in
    let own = customer_of c.args.block.now in
    let most = within_service own (first_second_of b.period) (end_second_of b.period) c.args.runs.now c.loop-run.run-index c.requires.some c.requires.rising c.requires.within in
    let period : c.deref.result.now ≡ b.period = c.deref.ensures ∙ c.period.ensures in
    let length : c.length.result + first_second_of b.period ≡ end_second_of b.period = subst (λ (p : Calendar). c.length.result + first_second_of p ≡ end_second_of p) period c.length.ensures.value in
    let short = c.length.ensures.short in
    let part = period_short b.period (omega (arith, length, short)) own in
    let few_s = c.loop-run.invariant.tallied.few_sustained in
    let few_n = c.loop-run.invariant.tallied.few_seconds in
    let few_m = c.loop-run.invariant.tallied.few_momentary in
    let days = c.args.days.now in
    let served : c.loop-run.tally.served ≡ count_by (in_service own) (seconds days.since days.until) =
    c.loop-run.invariant.served ∙ ap (λ (i : Interval). count_by (in_service own) (seconds i.since i.until)) (sym c.requires.days) in
    let few_w = service_short own days.since days.until in
    let room = c.requires.short in
    record {
      sustained = omega (arith, few_s, most, part);
      seconds = omega (arith, few_n, most, part);
      momentary = omega (arith, few_m, most, part);
      served = omega (arith, served, few_w, room);
    }

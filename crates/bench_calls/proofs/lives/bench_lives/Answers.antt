use Rattle.std.proofs.Common.{◌≡◌, ◌∙◌, ap, inr}
use Rattle.ob_net.specs.Network.{Network}
use Rattle.ob_time.specs.Calendar.{end_second_of, first_second_of}
use Rattle.ob_sweep.specs.Timeline.{AreRuns}
use Rattle.bench_calls.specs.Builds.{case_of, seconds_in_lists, year_seconds}
use Rattle.bench_calls.specs.Lives.{HasRuns, with_lives}
use Rattle.bench_calls.proofs.Sums.{seconds_of_runs}
use Rattle.bench_calls.proofs.lives.bench_lives.Goals as goal

pub live-requires-clause-runs : goal.live-requires-clause-runs
live-requires-clause-runs c =
    let m = c.in-Some.made in
    let runs : AreRuns m.net.network m.sheet.entries (first_second_of m.year) (end_second_of m.year) c.in-Ok.timeline = rw c.deref.ensures at c.in-Ok.ensures.runs in
    let has : HasRuns (case_of m.net.network m.sheet.entries m.year) c.in-Ok.timeline = record {
      between = c.in-Some.ensures.between;
      devices = c.in-Some.ensures.devices;
      sections = c.in-Some.ensures.sections;
      runs = runs;
    } in
    rw c.in-Ok.ensures.network has

pub returns-in-Some-seconds_of_sections : goal.returns-in-Some-seconds_of_sections
returns-in-Some-seconds_of_sections c =
    let m = c.in-Some.made in
    let n = c.live.new.made in
    let lists = c.live.new.timeline in
    let has = c.in-Some-live.ensures.runs in
    let lived : case_of n.net.network n.sheet.entries n.year ≡ with_lives (case_of m.net.network m.sheet.entries m.year) c.args.lived.now c.args.since.now c.args.until.now =
    c.in-Some-live.ensures.case ∙ ap (λ (net : Network). with_lives (case_of net m.sheet.entries m.year) c.args.lived.now c.args.since.now c.args.until.now) c.in-Ok.ensures.network in
    inr (
      case_of m.net.network m.sheet.entries m.year,
      c.in-Some.ensures.case,
      c.in-Some-seconds_of_sections.ensures
          ∙ ap (seconds_in_lists lists) c.nodes.ensures.count
          ∙ seconds_of_runs n.net.network n.sheet.entries (first_second_of n.year) (end_second_of n.year) lists has.sections has.runs
          ∙ ap year_seconds lived,
    )

use Rattle.std.proofs.Common.{◌≡◌, ◌∙◌, ◌-◌, ap, arith}
use Rattle.ob_sweep.specs.Timeline.{runs_at}
use Rattle.bench_calls.specs.Builds.{seconds_in_runs}
use Rattle.bench_calls.proofs.Sums.{section_more}
use Rattle.bench_calls.proofs.build.seconds_of_sections.Goals as goal

pub loop-section-preserved : goal.loop-section-preserved
loop-section-preserved g c = record {
  within = omega (arith, c);
  sum = section_more (λ v. seconds_in_runs (runs_at (g.T.Timeline.content c.args.timeline.now) v)) c.loop-section.section c.loop-section.sum c.in_ok-seconds_in.field-0 _ (omega arith)
      c.loop-section.invariant.sum
      (c.in_ok-seconds_in.ensures ∙ ap seconds_in_runs c.runs_of.ensures.runs)
      c.in_ok-sum.ensures.1;
}

pub returns : goal.returns
returns g c =
    let all : c.loop-section.section - 1 ≡ c.args.nodes - 1 = omega (arith, c) in
    rw all at c.loop-section.invariant.sum

use Rattle.std.proofs.Common.{sym, subst}
use Rattle.ob_sweep.specs.Timeline.{AreRuns}
use Rattle.ob_time.specs.Calendar.{Calendar, first_second_of, end_second_of}
use Rattle.ob_state.specs.declared.retiming.Retiming.TheVariants.{Same, By}
use Rattle.ob_state.specs.Retimings.{LeadsTo}
use Rattle.ob_state.proofs.retiming.retime.Goals as goal

pub returns-in-Same : goal.returns-in-Same
returns-in-Same g c = record {
  runs = λ b d same old leads.
      let stay : LeadsTo b d Same = subst (LeadsTo b d) c.in-Same.is leads in
      stay (g.T.Timeline.content c.args.timeline.now) old;
}

pub returns-in-By : goal.returns-in-By
returns-in-By g c = record {
  runs = λ b d same old leads.
      let lists = (g.T.Timeline.content c.args.timeline.now) in
      let by : LeadsTo b d (By c.in-By.delta) = subst (LeadsTo b d) c.in-By.is leads in
      let at = by lists old in
      let there : AreRuns b.network b.entries (first_second_of d.period) (end_second_of d.period) lists =
      subst (λ (p : Calendar). AreRuns b.network b.entries (first_second_of p) (end_second_of p) lists) (sym same) old in
      c.adopt.ensures.runs b.network d.network b.entries d.entries (first_second_of d.period) (end_second_of d.period) there at.0 at.1 at.3;
}

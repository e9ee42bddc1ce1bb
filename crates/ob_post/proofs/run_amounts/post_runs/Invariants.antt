use Rattle.ob_time.specs.Calendar.{days_of, day_count}
use Rattle.ob_post.proofs.Appended.{ArePosted}
use Rattle.ob_post.proofs.run_amounts.post_runs.Given as goal

abbrev pub invariant-loop-place : goal.invariant-loop-place
invariant-loop-place l = ArePosted l.fn.roll.customers l.fn.runs l.fn.causes l.fn.feeder (days_of l.fn.period) (day_count l.fn.period) l.fn.rows.items l.rows.items l.place

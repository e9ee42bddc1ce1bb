use Rattle.ob_post.proofs.Running.{AreAppended}
use Rattle.ob_post.proofs.run_amounts.post_run.Given as goal

abbrev pub invariant-loop-day : goal.invariant-loop-day
invariant-loop-day l = AreAppended l.fn.roll.customers l.fn.run l.fn.cause l.fn.feeder l.fn.period l.fn.rows.items l.rows.items l.day

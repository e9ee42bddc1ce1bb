use Rattle.ob_time.specs.Calendar.{first_second_of, end_second_of}
use Rattle.ob_sweep_tests.proofs.Asked.{lie}
use Rattle.ob_sweep_tests.proofs.example.plan.Goals as goal

pub plan-requires-clause-between : goal.plan-requires-clause-between
plan-requires-clause-between g c = lie (first_second_of c.args.period.now) (end_second_of c.args.period.now) c.args.sheet.now.entries c.requires.all

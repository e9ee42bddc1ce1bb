use Rattle.std.proofs.Common.{length, refl}
use Rattle.ob_time.specs.Calendar.{first_second_of, end_second_of}
use Rattle.ob_sweep_tests.proofs.Asked.{lie_entered}
use Rattle.ob_sweep_tests.proofs.change.entered.Goals as goal

pub returns-clause-between : goal.returns-clause-between
returns-clause-between c =
    lie_entered c.args.sheet.now.entries (length c.args.net.now.network.devices) (first_second_of c.args.period.now) (end_second_of c.args.period.now) c.requires.devices c.requires.all _ (c.if-is_outside.ensures.inside refl)

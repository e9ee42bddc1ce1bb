use Rattle.std.proofs.Common.{length}
use Rattle.ob_time.specs.Calendar.{first_second_of, end_second_of}
use Rattle.ob_sweep_tests.proofs.Asked.{devices_withdrawn, lie_withdrawn}
use Rattle.ob_sweep_tests.proofs.change.withdrawn.Goals as goal

pub returns-clause-devices : goal.returns-clause-devices
returns-clause-devices c =
    devices_withdrawn c.args.sheet.now.entries (length c.args.net.now.network.devices) (first_second_of c.args.period.now) (end_second_of c.args.period.now) c.requires.devices c.requires.all c.in_ok-old.old

pub returns-clause-between : goal.returns-clause-between
returns-clause-between c =
    lie_withdrawn c.args.sheet.now.entries (length c.args.net.now.network.devices) (first_second_of c.args.period.now) (end_second_of c.args.period.now) c.requires.devices c.requires.all c.in_ok-old.old
